-- A log that is written under the numbers among all clauses, line by line.
use Rattle.std.proofs.Common.{◌≡◌, ℕ, ◌<◌, Bool, false, true, List, [], ◌∷◌, ◌++◌, map, get_or, length, refl, sym, ◌∙◌, ap, subst, arith, append_assoc, length-append}
use Rattle.std.specs.Prelude.{nat_eq, ◌==◌, Ok, MatchBool}
use Rattle.std.specs.List.{All, Contains}
use Rattle.std.proofs.lemmas.Bool.{both_ways, eq-eqb, eqb-true}
use Rattle.std.proofs.lemmas.List.{append-nil, get_or-map, length-map, nil_from_length}
use Rattle.std.proofs.lemmas.List.Elements.{All-contains, All-nil, All-cons, All-head, All-tail}
use Rattle.dimacs.specs.logic.Literal.{Clause}
use Rattle.dimacs.specs.logic.Rat.{Group}
use Rattle.elimination.specs.Kept.{HasEliminated}
use Rattle.lrat_text.specs.Grammar.{LineSpellsWithin, SpellsStepWithin, IsStepWithin, IsClauseNumber, IsGroup}
use Rattle.lrat_text.specs.Lines.{IsCut, IsOpen}
use Rattle.lrat_text.specs.Log.{top_after}
use Rattle.lrat_text.specs.Runs.{text_of}
use Rattle.lrat_text.specs.WrittenLine.{line_of}
use Rattle.lrat_text.specs.declared.step.Step.{Step}
use Rattle.lrat_text.specs.declared.step.Step.TheVariants.{Add}
use Rattle.lrat_text.proofs.CutLemmas.{cut_same, none_cut}
use Rattle.lrat_text.proofs.SpellingLemmas.{spelled_found_within}
use Rattle.proof_join.specs.RenumberedSteps.{renumbered, renumbered_group}
use Rattle.renumbered_logs.specs.Renumbered.{behind_all, steps_behind, Avoids, GoesOn}
use Rattle.renumbered_logs.specs.inner.RenumberedLines.{CanBePut, IsPut, IsLeft, IsUnderWay}

-- ---- the first line of a text that spells steps
-- the step of the first line, and those after it
record Splits (steps : List Step) (step : Step) (line later : List ℕ) : Type 0 where
  pub spells : SpellsStepWithin 199999999 line step
  pub more : List Step
  pub are : steps ≡ step ∷ more
  pub spelled : LineSpellsWithin 199999999 later more

first_line : (rest line later : List ℕ) (steps : List Step) → IsCut rest line later → LineSpellsWithin 199999999 rest steps → (step : Step) × Splits steps step line later
first_line rest line later [] cut empty =
    let a : length (line ++ 10 ∷ later) ≡ length {A = ℕ} [] = ap length (sym cut.0 ∙ empty) in
    let b = length-append line (10 ∷ later) in
    absurd (omega arith)
first_line rest line later (step ∷ steps) cut (own, behind, splits, one, spells, more) =
    let same = cut_same line own later behind cut.1 one (sym cut.0 ∙ splits) in (
      step,
      record {
        spells = subst (λ (l : List ℕ). SpellsStepWithin 199999999 l step) (sym same.0) spells;
        more = steps;
        are = refl;
        spelled = subst (λ (t : List ℕ). LineSpellsWithin 199999999 t steps) (sym same.1) more;
      },
    )

read_same : (line : List ℕ) (one two : Step) → SpellsStepWithin 199999999 line one → SpellsStepWithin 199999999 line two → one ≡ two
read_same line one two h g = let e : Ok one ≡ Ok two = sym (spelled_found_within 199999999 line one (omega arith) h) ∙ spelled_found_within 199999999 line two (omega arith) g in cc

split_line : (rest line later : List ℕ) (steps : List Step) (step : Step) → IsCut rest line later → LineSpellsWithin 199999999 rest steps → SpellsStepWithin 199999999 line step → Splits steps step line later
split_line rest line later steps step cut h spells =
    let f = first_line rest line later steps cut h in
    subst (λ (s : Step). Splits steps s line later) (read_same line f.0 step f.1.spells spells) f.1

one_line : (line : List ℕ) → IsOpen line → ¬ (Contains line 10)
one_line line open_line i = both_ways (nat_eq 10 10) (All-contains (λ n. (n == 10) ≡ false) line 10 open_line i) refl

-- without an LF there is no step, and no byte
no_steps : (rest : List ℕ) (steps : List Step) → IsOpen rest → LineSpellsWithin 199999999 rest steps → rest ≡ []
no_steps rest [] none h = h
no_steps rest (step ∷ steps) none (own, behind, splits, one, spells, more) = absurd (none_cut rest own behind none splits)

module _ (numbers : List ℕ) (all : ℕ) where
  -- a number of a list that is no clause number among all
  pub number_over : (ns : List ℕ) (i : ℕ) → i < length ns → ¬ (IsClauseNumber (behind_all numbers all (get_or ns i 0))) → ¬ (All IsClauseNumber (map (behind_all numbers all) ns))
  number_over ns i below over fit =
      let here : IsClauseNumber (get_or (map (behind_all numbers all) ns) i 0) = fit i 0 (omega (arith, length-map ns (behind_all numbers all))) in
      over (subst IsClauseNumber (get_or-map (behind_all numbers all) ns i 0 0 below) here)

  -- a lemma whose line was appended
  pub addition_put : (gone : List Bool) (id new_id before : ℕ) (lits : Clause) (hints new_hints : List ℕ) (groups : List Group) (old new : List ℕ)
      → IsStepWithin 199999999 (Add id lits hints groups) → groups ≡ [] → ¬ (HasEliminated gone lits)
      → new_id ≡ behind_all numbers all id → IsClauseNumber new_id → new_hints ≡ map (behind_all numbers all) hints → All IsClauseNumber new_hints
      → new ≡ old ++ line_of new_id (Add new_id lits new_hints groups) → IsPut numbers all gone (Add id lits hints groups) before new_id old new
  addition_put gone id new_id before lits hints new_hints groups old new limits none avoids is number are within wrote =
      let f : ℕ → ℕ = behind_all numbers all in
      let same : groups ≡ map (renumbered_group f) groups = none ∙ sym (ap (map (renumbered_group f)) none) in
      record {
        can = record {
          avoids = (avoids, none);
          limits = (
            subst IsClauseNumber is number,
            limits.1,
            subst (λ (ns : List ℕ). All IsClauseNumber ns) are within,
            subst (λ (gs : List Group). All IsGroup gs) same limits.3,
          );
        };
        text = wrote
            ∙ ap (λ (n : ℕ). old ++ line_of before (Add n lits new_hints groups)) is
            ∙ ap (λ (ns : List ℕ). old ++ line_of before (Add (f id) lits ns groups)) are
            ∙ ap (λ (gs : List Group). old ++ line_of before (Add (f id) lits (map f hints) gs)) same;
        after = is;
        numbered = number;
      }

  module _ (gone : List Bool) (log before : List ℕ) where
    -- ---- one line more
    module _ (top next_top : ℕ) (rest line later out next_out : List ℕ) (step : Step) (cut : IsCut rest line later) (spells : SpellsStepWithin 199999999 line step)
        (put : IsPut numbers all gone step top next_top out next_out) where
      next_left : (new : List ℕ) → IsLeft numbers all gone top rest out new → IsLeft numbers all gone next_top later next_out new
      next_left new l =
          let r : Step = renumbered (behind_all numbers all) step in
          let s = split_line rest line later l.steps step cut l.spelled spells in
          let after : List Step = steps_behind numbers all s.more in
          record {
            steps = s.more;
            spelled = s.spelled;
            avoid = All-tail (Avoids gone) step s.more (subst (λ (ss : List Step). All (Avoids gone) ss) s.are l.avoid);
            limits = All-tail (IsStepWithin 199999999) r after (subst (λ (ss : List Step). All (IsStepWithin 199999999) (steps_behind numbers all ss)) s.are l.limits);
            text = l.text
                ∙ ap (λ (ss : List Step). out ++ text_of top (steps_behind numbers all ss)) s.are
                ∙ sym (append_assoc out (line_of top r) (text_of (top_after top r) after))
                ∙ ap (λ (o : List ℕ). o ++ text_of (top_after top r) after) (sym put.text)
                ∙ ap (λ (t : ℕ). next_out ++ text_of t after) (sym put.after);
          }

      left_before : (new : List ℕ) → IsLeft numbers all gone next_top later next_out new → IsLeft numbers all gone top rest out new
      left_before new l =
          let r : Step = renumbered (behind_all numbers all) step in
          let after : List Step = steps_behind numbers all l.steps in
          record {
            steps = step ∷ l.steps;
            spelled = (line, later, cut.0, one_line line cut.1, spells, l.spelled);
            avoid = All-cons (Avoids gone) step l.steps put.can.avoids l.avoid;
            limits = All-cons (IsStepWithin 199999999) r after put.can.limits l.limits;
            text = l.text
                ∙ ap (λ (t : ℕ). next_out ++ text_of t after) put.after
                ∙ ap (λ (o : List ℕ). o ++ text_of (top_after top r) after) put.text
                ∙ append_assoc out (line_of top r) (text_of (top_after top r) after);
          }

      pub goes_on : IsUnderWay numbers all gone log before top rest out → IsUnderWay numbers all gone log before next_top later next_out
      goes_on u = record {
        numbered = put.numbered;
        leads = λ new g. next_left new (u.leads new g);
        back = λ new l. u.back new (left_before new l);
      }

    -- ---- no new text
    module _ (top : ℕ) (rest line later out : List ℕ) (u : IsUnderWay numbers all gone log before top rest out) (cut : IsCut rest line later) where
      -- a line that spells no step
      pub not_read : ((step : Step) → ¬ (SpellsStepWithin 199999999 line step)) → (new : List ℕ) → ¬ (GoesOn numbers all gone log before new)
      not_read none new g =
          let l = u.leads new g in
          let f = first_line rest line later l.steps cut l.spelled in
          none f.0 f.1.spells

      -- a step that cannot be written
      pub not_put : (step : Step) → SpellsStepWithin 199999999 line step → ¬ (CanBePut numbers all gone step) → (new : List ℕ) → ¬ (GoesOn numbers all gone log before new)
      not_put step spells cannot new g =
          let l = u.leads new g in
          let s = split_line rest line later l.steps step cut l.spelled spells in
          cannot (record {
            avoids = All-head (Avoids gone) step s.more (subst (λ (ss : List Step). All (Avoids gone) ss) s.are l.avoid);
            limits = All-head (IsStepWithin 199999999) (renumbered (behind_all numbers all) step) (steps_behind numbers all s.more)
                (subst (λ (ss : List Step). All (IsStepWithin 199999999) (steps_behind numbers all ss)) s.are l.limits);
          })

    -- ---- the end
    -- after the last LF no byte may follow
    pub ends : (done : Bool) (top : ℕ) (rest line out : List ℕ) → IsUnderWay numbers all gone log before top rest out → IsOpen rest → line ≡ rest → done ≡ (length line == 0)
        → MatchBool done (GoesOn numbers all gone log before out) ((new : List ℕ) → ¬ (GoesOn numbers all gone log before new))
    ends true top rest line out u none same is =
        let empty : rest ≡ [] = sym same ∙ nil_from_length line (eqb-true (length line) 0 (sym is)) in
        u.back out (record {
          steps = [];
          spelled = empty;
          avoid = All-nil (Avoids gone);
          limits = All-nil (IsStepWithin 199999999);
          text = sym (append-nil out);
        })
    ends false top rest line out u none same is = λ new g.
        let l = u.leads new g in
        let empty : line ≡ [] = same ∙ no_steps rest l.steps none l.spelled in
        both_ways (length line == 0) (sym is) (eq-eqb (length line) 0 (ap (λ (xs : List ℕ). length xs) empty))
