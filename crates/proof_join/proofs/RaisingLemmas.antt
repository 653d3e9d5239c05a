-- A text whose lines are written under raised numbers, one after the other.
use Rattle.std.proofs.Common.{◌≡◌, ℕ, ◌+◌, ◌^◌, ◌<◌, ◌≤◌, min, max, false, List, [], ◌∷◌, ◌++◌, map, get_or, take, length, refl, sym, ◌∙◌, ap, subst, arith, append_assoc, length-append}
use Rattle.std.specs.Prelude.{nat_eq, ◌==◌, Some, slice_get}
use Rattle.std.specs.List.{All, Contains}
use Rattle.std.proofs.lemmas.Bool.{both_ways, eq-eqb}
use Rattle.std.proofs.lemmas.List.{get_or-map, length-map, map-append, take_more}
use Rattle.std.proofs.lemmas.List.Elements.{All-contains}
use Rattle.std.proofs.lemmas.Option.{get_or_from_slice_get}
use Rattle.dimacs.specs.logic.Literal.{Clause}
use Rattle.dimacs.specs.logic.Rat.{Group}
use Rattle.lrat_text.specs.Grammar.{LineSpells, SpellsStep, IsClauseNumber, IsGroup}
use Rattle.lrat_text.specs.Lines.{IsCut, IsOpen}
use Rattle.lrat_text.specs.WrittenLine.{line_of}
use Rattle.lrat_text.specs.declared.step.Step.{Step}
use Rattle.lrat_text.specs.declared.step.Step.TheVariants.{Add}
use Rattle.proof_join.specs.RenumberedSteps.{renumbered, renumbered_group}
use Rattle.proof_join.specs.RenumberedProof.{raised, raised_steps, highest_after, lines_from, LineFits, LinesFit, Renumbers}
use Rattle.proof_join.specs.inner.RaisedLines.{Unless, IsPut, IsLeft, IsUnderWay}
use Rattle.proof_join.specs.Steps.{steps_in}
use Rattle.proof_join.specs.declared.renumbered_proof.Stop.{Stop}
use Rattle.proof_join.specs.declared.renumbered_proof.Stop.TheVariants.{NoText, NoMemory}
use Rattle.proof_join.proofs.StepLemmas.{next_line, no_line, read_same, spelled_in}

pub unless_so : (stop : Stop) (P Q : Type 0) → (P → Q) → Unless stop P → Unless stop Q
unless_so NoText P Q f h = f h
unless_so NoMemory P Q f h = tt

-- ---- numbers and groups that do not fit
pub number_over : (m e : ℕ) (ns : List ℕ) (i : ℕ) → i < length ns → 2 ^ 48 ≤ raised m e (get_or ns i 0) → ¬ (All IsClauseNumber (map (raised m e) ns))
number_over m e ns i below over fit =
    let here : IsClauseNumber (get_or (map (raised m e) ns) i 0) = fit i 0 (omega (arith, length-map ns (raised m e))) in
    let few = (subst IsClauseNumber (get_or-map (raised m e) ns i 0 0 below) here).1 in
    omega arith

pub group_over : (m e : ℕ) (gs : List Group) (i : ℕ) (g : Group) → i < length gs → get_or gs i (0, []) ≡ g → ¬ (IsGroup (renumbered_group (raised m e) g)) → ¬ (All IsGroup (map (renumbered_group (raised m e)) gs))
group_over m e gs i g below is over fit =
    let here : IsGroup (get_or (map (renumbered_group (raised m e)) gs) i (0, [])) = fit i (0, []) (omega (arith, length-map gs (renumbered_group (raised m e)))) in
    over (subst IsGroup (get_or-map (renumbered_group (raised m e)) gs i (0, []) (0, []) below ∙ ap (renumbered_group (raised m e)) is) here)

-- one group more
pub groups_on : (m e : ℕ) (gs : List Group) (i : ℕ) (g : Group) (out new : List Group) → i < length gs → slice_get gs i ≡ Some g → out ≡ map (renumbered_group (raised m e)) (take i gs)
    → new ≡ out ++ renumbered_group (raised m e) g ∷ [] → new ≡ map (renumbered_group (raised m e)) (take (i + 1) gs)
groups_on m e gs i g out new below is was now =
    let f : Group → Group = renumbered_group (raised m e) in
    now ∙ ap (λ (xs : List Group). xs ++ f g ∷ []) was ∙ sym (map-append f (take i gs) (g ∷ []))
    ∙ ap (λ (x : Group). map f (take i gs ++ x ∷ [])) (sym (get_or_from_slice_get gs i g (0, []) is))
    ∙ ap (map f) (sym (take_more gs i (0, []) below))

-- ---- a line that does not fit
module _ (m e high : ℕ) (out : List ℕ) where
  -- the new line would make the text too long, if its numbers fit
  abbrev pub TooLong : Step → Type 0
  TooLong step = LineFits high (renumbered (raised m e) step) → 2 ^ 32 ≤ length (out ++ line_of (max 1 high) (renumbered (raised m e) step))

  pub hints_over : (stop : Stop) (id : ℕ) (lits : Clause) (hints : List ℕ) (groups : List Group) → Unless stop (¬ (All IsClauseNumber (map (raised m e) hints))) → Unless stop (TooLong (Add id lits hints groups))
  hints_over NoText id lits hints groups none = λ fit. absurd (none fit.2)
  hints_over NoMemory id lits hints groups none = tt

  pub groups_over : (stop : Stop) (id : ℕ) (lits : Clause) (hints : List ℕ) (groups : List Group) → Unless stop (¬ (All IsGroup (map (renumbered_group (raised m e)) groups))) → Unless stop (TooLong (Add id lits hints groups))
  groups_over NoText id lits hints groups none = λ fit. absurd (none fit.3)
  groups_over NoMemory id lits hints groups none = tt

-- the step of the first line, and those after it
record Splits (steps : List Step) (step : Step) (line later : List ℕ) : Type 0 where
  pub spells : SpellsStep line step
  pub more : List Step
  pub are : steps ≡ step ∷ more
  pub spelled : LineSpells later more

first_line : (rest line later : List ℕ) (steps : List Step) → IsCut rest line later → LineSpells rest steps → (step : Step) × Splits steps step line later
first_line rest line later steps cut h =
    let known : steps_in rest ≡ steps = spelled_in 2000000 (omega arith) rest steps h in
    let n = next_line 2000000 (omega arith) rest line later cut (subst (LineSpells rest) (sym known) h) in
    (n.step, record { spells = n.spells; more = steps_in later; are = sym known ∙ n.steps; spelled = n.spelled })

split_line : (rest line later : List ℕ) (steps : List Step) (step : Step) → IsCut rest line later → LineSpells rest steps → SpellsStep line step → Splits steps step line later
split_line rest line later steps step cut h spells =
    let f = first_line rest line later steps cut h in
    subst (λ (s : Step). Splits steps s line later) (read_same 2000000 (omega arith) line f.0 step f.1.spells spells) f.1

one_line : (line : List ℕ) → IsOpen line → ¬ (Contains line 10)
one_line line open_line i = both_ways (nat_eq 10 10) (All-contains (λ n. (n == 10) ≡ false) line 10 open_line i) refl

-- ---- one line more
module _ (m e high : ℕ) (out out' rest line later : List ℕ) (step : Step) (top : ℕ) (cut : IsCut rest line later) (spells : SpellsStep line step) (put : IsPut high (renumbered (raised m e) step) out out' top) where
  next_left : (new : List ℕ) → IsLeft m e high out rest new → IsLeft m e (highest_after high (renumbered (raised m e) step)) out' later new
  next_left new l =
      let r : Step = renumbered (raised m e) step in
      let s = split_line rest line later l.steps step cut l.spelled spells in
      let fit : LinesFit high (raised_steps m e (step ∷ s.more)) = subst (λ (xs : List Step). LinesFit high (raised_steps m e xs)) s.are l.fit in
      record {
        steps = s.more;
        spelled = s.spelled;
        fit = fit.1;
        is = l.is ∙ ap (λ (xs : List Step). out ++ lines_from high (raised_steps m e xs)) s.are
            ∙ sym (append_assoc out (line_of (max 1 high) r) (lines_from (highest_after high r) (raised_steps m e s.more)))
            ∙ ap (λ (o : List ℕ). o ++ lines_from (highest_after high r) (raised_steps m e s.more)) (sym put.text);
        short = l.short;
      }

  left_before : (new : List ℕ) → IsLeft m e (highest_after high (renumbered (raised m e) step)) out' later new → IsLeft m e high out rest new
  left_before new l =
      let r : Step = renumbered (raised m e) step in
      record {
        steps = step ∷ l.steps;
        spelled = (line, later, cut.0, one_line line cut.1, spells, l.spelled);
        fit = (put.fits, l.fit);
        is = l.is ∙ ap (λ (o : List ℕ). o ++ lines_from (highest_after high r) (raised_steps m e l.steps)) put.text
            ∙ append_assoc out (line_of (max 1 high) r) (lines_from (highest_after high r) (raised_steps m e l.steps));
        short = l.short;
      }

pub begins : (m e top : ℕ) (text : List ℕ) → top ≡ min (2 ^ 48) (m + e) → IsUnderWay m e text top [] text
begins m e top text is = record {
  high = m + e;
  highest = is;
  leads = λ new h. record { steps = h.steps; spelled = h.spelled; fit = h.fit; is = h.is; short = h.short };
  back = λ new l. record { steps = l.steps; spelled = l.spelled; fit = l.fit; is = l.is; short = l.short };
}

pub goes_on : (m e top top' : ℕ) (text out out' rest line later : List ℕ) (step : Step) → IsUnderWay m e text top out rest → IsCut rest line later → SpellsStep line step
    → ((high : ℕ) → top ≡ min (2 ^ 48) high → IsPut high (renumbered (raised m e) step) out out' top') → IsUnderWay m e text top' out' later
goes_on m e top top' text out out' rest line later step u cut spells put =
    let p = put u.high u.highest in
    record {
      high = highest_after u.high (renumbered (raised m e) step);
      highest = p.highest;
      leads = λ new h. next_left m e u.high out out' rest line later step top' cut spells p new (u.leads new h);
      back = λ new l. u.back new (left_before m e u.high out out' rest line later step top' cut spells p new l);
    }

-- ---- no new text
-- a line that spells no step
no_step : (m e top : ℕ) (text out rest line later : List ℕ) → IsUnderWay m e text top out rest → IsCut rest line later → ((step : Step) → ¬ (SpellsStep line step)) → (new : List ℕ) → ¬ (Renumbers m e text new)
no_step m e top text out rest line later u cut none new h =
    let l = u.leads new h in
    let f = first_line rest line later l.steps cut l.spelled in
    none f.0 f.1.spells

pub not_read : (m e top : ℕ) (text out rest line later : List ℕ) (stop : Stop) → IsUnderWay m e text top out rest → IsCut rest line later → Unless stop ((step : Step) → ¬ (SpellsStep line step))
    → Unless stop ((new : List ℕ) → ¬ (Renumbers m e text new))
not_read m e top text out rest line later NoText u cut none = no_step m e top text out rest line later u cut none
not_read m e top text out rest line later NoMemory u cut none = tt

-- a line that does not fit, or is too long
no_line_left : (m e top : ℕ) (text out rest line later : List ℕ) (step : Step) → IsUnderWay m e text top out rest → IsCut rest line later → SpellsStep line step
    → ((high : ℕ) → top ≡ min (2 ^ 48) high → LineFits high (renumbered (raised m e) step) → 2 ^ 32 ≤ length (out ++ line_of (max 1 high) (renumbered (raised m e) step)))
    → (new : List ℕ) → ¬ (Renumbers m e text new)
no_line_left m e top text out rest line later step u cut spells long new h =
    let l = u.leads new h in
    let r : Step = renumbered (raised m e) step in
    let s = split_line rest line later l.steps step cut l.spelled spells in
    let fit : LinesFit u.high (raised_steps m e (step ∷ s.more)) = subst (λ (xs : List Step). LinesFit u.high (raised_steps m e xs)) s.are l.fit in
    let is : new ≡ out ++ (line_of (max 1 u.high) r ++ lines_from (highest_after u.high r) (raised_steps m e s.more)) = l.is ∙ ap (λ (xs : List Step). out ++ lines_from u.high (raised_steps m e xs)) s.are in
    let all = ap (λ (xs : List ℕ). length xs) is in
    let a = length-append out (line_of (max 1 u.high) r ++ lines_from (highest_after u.high r) (raised_steps m e s.more)) in
    let b = length-append (line_of (max 1 u.high) r) (lines_from (highest_after u.high r) (raised_steps m e s.more)) in
    let d = length-append out (line_of (max 1 u.high) r) in
    let most = long u.high u.highest fit.0 in
    let few = l.short in
    omega arith

-- a call that did not put the line
pub not_put : (m e top : ℕ) (text out rest line later : List ℕ) (step : Step) (stop : Stop) → IsUnderWay m e text top out rest → IsCut rest line later → SpellsStep line step
    → ((high : ℕ) → top ≡ min (2 ^ 48) high → Unless stop (TooLong m e high out step)) → Unless stop ((new : List ℕ) → ¬ (Renumbers m e text new))
not_put m e top text out rest line later step NoText u cut spells long = no_line_left m e top text out rest line later step u cut spells long
not_put m e top text out rest line later step NoMemory u cut spells long = tt

-- bytes after the last LF
pub no_end : (m e top : ℕ) (text out rest : List ℕ) → IsUnderWay m e text top out rest → IsOpen rest → (length rest == 0) ≡ false → (new : List ℕ) → ¬ (Renumbers m e text new)
no_end m e top text out rest u none some new h =
    let l = u.leads new h in
    let known : steps_in rest ≡ l.steps = spelled_in 2000000 (omega arith) rest l.steps l.spelled in
    let e : l.steps ≡ [] = sym known ∙ no_line 2000000 rest none (subst (LineSpells rest) (sym known) l.spelled) in
    let empty : rest ≡ [] = subst (LineSpells rest) e l.spelled in
    both_ways (length rest == 0) some (eq-eqb (length rest) 0 (ap (λ (xs : List ℕ). length xs) empty))
