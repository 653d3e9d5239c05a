-- Steps of a text, one after the other, under other numbers.
use Rattle.std.proofs.Common.{◌≡◌, ℕ, ◌+◌, ◌-◌, ◌^◌, ◌<◌, ◌≤◌, List, [], ◌∷◌, ◌++◌, map, length, Bool, true, false, MatchBool, Result, Ok, Err, refl, sym, ◌∙◌, ap, subst, arith, append_assoc, length-append, inl, inr}
use Rattle.std.specs.List.{All, Contains}
use Rattle.std.proofs.lemmas.Bool.{cases_lt}
use Rattle.std.proofs.lemmas.List.Elements.{All-weaker, All-map, All-contains, All-contains_itself}
use Rattle.dimacs.specs.logic.Literal.{Clause}
use Rattle.dimacs.specs.logic.Rat.{Group}
use Rattle.lrat_text.specs.Grammar.{LineSpellsWithin, SpellsStepWithin, IsStepWithin, IsClauseNumber}
use Rattle.lrat_text.specs.Lines.{AllReadWithin, IsCut, IsOpen}
use Rattle.lrat_text.specs.Log.{top_after}
use Rattle.lrat_text.specs.WrittenLine.{line_text, line_of}
use Rattle.lrat_text.specs.declared.fault.TextFault.{TextFault}
use Rattle.lrat_text.specs.declared.step.Step.{Step}
use Rattle.lrat_text.specs.declared.step.Step.TheVariants.{Add, Delete}
use Rattle.lrat_text.proofs.CutLemmas.{cut_same, none_cut}
use Rattle.lrat_text.proofs.LineLemmas.{spelled_read_within, spells_more}
use Rattle.lrat_text.proofs.SpellingLemmas.{spelled_found_within}
use Rattle.dimacs.specs.text.Words
use Rattle.proof_join.specs.RenumberedSteps.{behind, renumbered}
use Rattle.lrat_text.specs.Runs.{text_of, top_of}
use Rattle.proof_join.specs.Steps.{with_step, steps_of, steps_in}
use Rattle.proof_join.specs.inner.Steps.{IsLow, Writes, last_of}
use Rattle.proof_join.specs.declared.fault.JoinFault.{JoinFault}
use Rattle.proof_join.specs.declared.fault.JoinFault.TheVariants.{TooLong, NoMemory}
use Rattle.proof_join.proofs.NumberLemmas.{behind_low, behind_high}

-- ---- limits
-- a number up to k, of which b are the base's, is a clause number after t as well
behind_number : (b t k n : ℕ) → b ≤ t → b ≤ k → t + (k - b) < 2 ^ 48 → n ≤ k → IsClauseNumber n → IsClauseNumber (behind b t n)
behind_number b t k n low base few up (some, small) = elim (cases_lt b n) [
  | inr x ↦ let e = behind_low b t n x in subst IsClauseNumber (sym e) (some, small)
  | inl x ↦ let e = behind_high b t n x in subst IsClauseNumber (sym e) (omega arith, omega arith)
]

numbers_behind : (b t k : ℕ) (ns : List ℕ) → b ≤ t → b ≤ k → t + (k - b) < 2 ^ 48 → All (λ n. n ≤ k) ns → All IsClauseNumber ns → All IsClauseNumber (map (behind b t) ns)
numbers_behind b t k ns low base few up limits =
    All-map IsClauseNumber (behind b t) ns (All-weaker (Contains ns) (λ n. IsClauseNumber (behind b t n))
    (λ n i. behind_number b t k n low base few (All-contains (λ n. n ≤ k) ns n up i) (All-contains IsClauseNumber ns n limits i)) ns (All-contains_itself ns))

pub low_addition : (most b t k id : ℕ) (lits : Clause) (hints : List ℕ) (groups : List Group) → b ≤ t → b ≤ k → t + (k - b) + 1 < 2 ^ 48 → IsStepWithin most (Add id lits hints groups) → IsLow k (Add id lits hints groups)
    → IsStepWithin most (Add (behind b t id) lits (map (behind b t) hints) groups)
low_addition most b t k id lits hints groups low base few (number, small, limits, gs) (next, up, none) = (
  behind_number b t (k + 1) id low (omega arith) (omega arith) (omega arith) number,
  small,
  numbers_behind b t k hints low base (omega arith) up limits,
  gs,
)

pub low_deletion : (most b t k : ℕ) (ids : List ℕ) → b ≤ t → b ≤ k → t + (k - b) + 1 < 2 ^ 48 → IsStepWithin most (Delete ids) → IsLow k (Delete ids) → IsStepWithin most (Delete (map (behind b t) ids))
low_deletion most b t k ids low base few limits up = numbers_behind b t k ids low base (omega arith) up limits

-- ---- the next line
read_steps : (pieces : List (List ℕ)) (steps : List Step) → AllReadWithin 199999999 pieces steps → steps_of pieces ≡ steps
read_steps [] steps h = absurd h
read_steps (last ∷ []) steps h = sym h.1
read_steps (piece ∷ next ∷ pieces) [] h = absurd h
read_steps (piece ∷ next ∷ pieces) (step ∷ steps) h = ap (λ (r : Result Step TextFault). with_step r (steps_of (next ∷ pieces))) h.0 ∙ ap (λ (ss : List Step). step ∷ ss) (read_steps (next ∷ pieces) steps h.1)

pub spelled_in : (most : ℕ) → most ≤ 199999999 → (text : List ℕ) (steps : List Step) → LineSpellsWithin most text steps → steps_in text ≡ steps
unfolding steps_in
spelled_in most few text steps h = read_steps (Words.lines text) steps (spelled_read_within 199999999 (omega arith) text steps (spells_more most 199999999 few text steps h))

-- what stands after a line of a text whose lines spell steps
pub record IsNext (most : ℕ) (text line rest : List ℕ) : Type 0 where
  pub step : Step
  pub spells : SpellsStepWithin most line step
  pub steps : steps_in text ≡ step ∷ steps_in rest
  pub spelled : LineSpellsWithin most rest (steps_in rest)

pub next_line : (most : ℕ) → most ≤ 199999999 → (text line rest : List ℕ) → IsCut text line rest → LineSpellsWithin most text (steps_in text) → IsNext most text line rest
next_line most few text line rest cut h = at (steps_in text) refl h
  where
    at : (steps : List Step) → steps_in text ≡ steps → LineSpellsWithin most text steps → IsNext most text line rest
    at [] e spelled =
        let a : length (line ++ 10 ∷ rest) ≡ length {A = ℕ} [] = ap length (sym cut.0 ∙ spelled) in
        let b = length-append line (10 ∷ rest) in
        absurd (omega arith)
    at (step ∷ steps) e (own, later, splits, one, spells, more) =
        let same = cut_same line own rest later cut.1 one (sym cut.0 ∙ splits) in
        let left : LineSpellsWithin most rest steps = subst (λ (t : List ℕ). LineSpellsWithin most t steps) (sym same.1) more in
        let known : steps_in rest ≡ steps = spelled_in most few rest steps left in
        record {
          step = step;
          spells = subst (λ (l : List ℕ). SpellsStepWithin most l step) (sym same.0) spells;
          steps = e ∙ ap (λ (ss : List Step). step ∷ ss) (sym known);
          spelled = subst (LineSpellsWithin most rest) (sym known) left;
        }

-- and where no LF is left, there is no step
pub no_line : (most : ℕ) (text : List ℕ) → IsOpen text → LineSpellsWithin most text (steps_in text) → steps_in text ≡ []
no_line most text none h = at (steps_in text) refl h
  where
    at : (steps : List Step) → steps_in text ≡ steps → LineSpellsWithin most text steps → steps_in text ≡ []
    at [] e spelled = e
    at (step ∷ steps) e (own, later, splits, one, spells, more) =
        absurd (none_cut text own later none splits)

-- a line spells one step
pub read_same : (most : ℕ) → most < 2 ^ 48 → (line : List ℕ) (one two : Step) → SpellsStepWithin most line one → SpellsStepWithin most line two → one ≡ two
read_same most few line one two h g = let e : Ok one ≡ Ok two = sym (spelled_found_within most line one few h) ∙ spelled_found_within most line two few g in cc

-- ---- one line more
-- a longer text is too long as well
pub writes_longer : (A : Type 0) (fault : JoinFault) (new short long : List ℕ) → Writes {A = A} (Err fault) new short → length short ≤ length long → Writes {A = A} (Err fault) new long
writes_longer A TooLong new short long h below = omega arith
writes_longer A NoMemory new short long h below = tt

-- so it is for another call
pub writes_else : (A B : Type 0) (fault : JoinFault) (new text : List ℕ) → Writes {A = A} (Err fault) new text → Writes {A = B} (Err fault) new text
writes_else A B TooLong new text h = h
writes_else A B NoMemory new text h = h

-- the number of the last addition, in the fragment and after t
pub top_on : (b t top number : ℕ) (step : Step) → b ≤ t → t ≤ top → IsLow (b + (top - t)) step → number ≡ top_after top (renumbered (behind b t) step)
    → (top_after (b + (top - t)) step ≡ b + (number - t)) × (t ≤ number) × (number ≤ top + 1)
top_on b t top number (Add id lits hints groups) low above (next, up, none) e =
    let f : number ≡ id - b + t = e ∙ behind_high b t id (omega arith) in
    (omega arith, omega arith, omega arith)
top_on b t top number (Delete ids) low above up e = (omega arith, omega arith, omega arith)

module _ (b t top number : ℕ) (out out' whole : List ℕ) (step : Step) (rest later : List Step) where
  pub text_on : rest ≡ step ∷ later → out' ≡ out ++ line_of top (renumbered (behind b t) step) → number ≡ top_after top (renumbered (behind b t) step)
      → out ++ text_of top (map (renumbered (behind b t)) rest) ≡ whole → out' ++ text_of number (map (renumbered (behind b t)) later) ≡ whole
  text_on steps wrote is e =
      let r : Step → Step = renumbered (behind b t) in
      ap (λ (o : List ℕ). o ++ text_of number (map r later)) wrote
      ∙ ap (λ (n : ℕ). (out ++ line_of top (r step)) ++ text_of n (map r later)) is
      ∙ append_assoc out (line_of top (r step)) (text_of (top_after top (r step)) (map r later))
      ∙ ap (λ (ss : List Step). out ++ text_of top (map r ss)) (sym steps)
      ∙ e

  pub longer : rest ≡ step ∷ later → out ++ text_of top (map (renumbered (behind b t)) rest) ≡ whole → length (out ++ line_of top (renumbered (behind b t) step)) ≤ length whole
  longer steps e =
      let r : Step → Step = renumbered (behind b t) in
      let f : out ++ (line_of top (r step) ++ text_of (top_after top (r step)) (map r later)) ≡ whole = ap (λ (ss : List Step). out ++ text_of top (map r ss)) (sym steps) ∙ e in
      let g : length (out ++ (line_of top (r step) ++ text_of (top_after top (r step)) (map r later))) ≡ length whole = ap length f in
      let h = length-append out (line_of top (r step) ++ text_of (top_after top (r step)) (map r later)) in
      let i = length-append (line_of top (r step)) (text_of (top_after top (r step)) (map r later)) in
      let j = length-append out (line_of top (r step)) in
      omega arith

  pub top_of_on : rest ≡ step ∷ later → number ≡ top_after top (renumbered (behind b t) step) → (end : ℕ) → top_of top (map (renumbered (behind b t)) rest) ≡ end → top_of number (map (renumbered (behind b t)) later) ≡ end
  top_of_on steps is end e =
      ap (λ (n : ℕ). top_of n (map (renumbered (behind b t)) later)) is ∙ ap (λ (ss : List Step). top_of top (map (renumbered (behind b t)) ss)) (sym steps) ∙ e

-- a line has a byte
pub line_some : (out : List ℕ) (top : ℕ) (step : Step) → length out + 1 ≤ length (out ++ line_of top step)
line_some out top step =
    let a = length-append out (line_of top step) in
    let b = length-append (line_text top step) (10 ∷ []) in
    omega arith

-- the last step so far is that of the last line, or there is none yet
abbrev pub LastIs : Bool → List ℕ → Step → Step → Step → List Step → Type 0
LastIs some line now before end rest = MatchBool some ((step : Step) × SpellsStepWithin 199999999 line step × (last_of step rest ≡ end)) ((now ≡ before) × (last_of before rest ≡ end))

pub last_at : (some : Bool) (line : List ℕ) (now before end step : Step) (rest later : List Step) → rest ≡ step ∷ later → LastIs some line now before end rest → last_of step later ≡ end
last_at false line now before end step rest later e (same, h) = ap (last_of before) (sym e) ∙ h
last_at true line now before end step rest later e (own, spells, h) = ap (last_of own) (sym e) ∙ h

pub last_read : (some : Bool) (line : List ℕ) (now before new end : Step) (rest : List Step) → rest ≡ []
    → MatchBool some (SpellsStepWithin 199999999 line new) (new ≡ now) → LastIs some line now before end rest → new ≡ end
last_read false line now before new end rest e is (same, h) = is ∙ same ∙ ap (last_of before) (sym e) ∙ h
last_read true line now before new end rest e is (own, spells, h) = read_same 199999999 (omega arith) line new own is spells ∙ ap (last_of own) (sym e) ∙ h
