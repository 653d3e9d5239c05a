-- The resolvents' log, and the search's behind it.
use Rattle.std.proofs.Common.{◌≡◌, ℕ, ◌+◌, ◌^◌, ◌<◌, ◌≤◌, max, Bool, List, [], ◌∷◌, ◌++◌, length, map, sym, ◌∙◌, ap, refl, subst, arith, append_assoc}
use Rattle.std.specs.List.{All}
use Rattle.std.proofs.lemmas.List.{map-append}
use Rattle.std.proofs.lemmas.List.Elements.{All-head, All-tail}
use Rattle.dimacs.specs.logic.Cnf.{Cnf}
use Rattle.dimacs.specs.logic.ClauseMap.{ClauseMap, live_in, map_of}
use Rattle.dimacs.specs.logic.Literal.{Clause}
use Rattle.lrat_text.specs.Grammar.{LineSpellsWithin, IsStepWithin, IsClauseNumber}
use Rattle.lrat_text.specs.Log.{Cube, after_step, top_after, AreLogSteps, IsLog, AreFresh, additions, log_top, Negates, EndsAt, Closes}
use Rattle.lrat_text.specs.Proof.{without}
use Rattle.lrat_text.specs.Runs.{after_steps, top_of, text_of}
use Rattle.lrat_text.specs.declared.step.Step.{Step}
use Rattle.lrat_text.specs.declared.step.Step.TheVariants.{Add, Delete}
use Rattle.lrat_text.proofs.CountingLemmas.{one_list_under}
use Rattle.lrat_text.proofs.RunLemmas.{after_append, log_append, spells_append_within}
use Rattle.proof_join.specs.RenumberedSteps.{renumbered}
use Rattle.proof_join.proofs.LogLemmas.{log_weaker}
use Rattle.proof_join.proofs.MapLemmas.{AreBetween, between_formula, between_without}
use Rattle.proof_join.proofs.TextLemmas.{spells_cons}
use Rattle.elimination.specs.Kept.{AddsResolvents, IsKept}
use Rattle.renumbered_logs.specs.Renumbered.{behind_all, steps_behind, Avoids, GoesOn}
use Rattle.renumbered_logs.proofs.BehindLemmas.{begun, kept_count, log_behind, live_behind, fresh_behind, count_behind}
use Rattle.renumbered_logs.proofs.PlaceLemmas.{place_above, place_rises_high}

-- ---- steps after others
fresh_append : (B : Cnf) (M : ClauseMap) (xs ys : List Step) → AreFresh B M xs → AreFresh B (after_steps M xs) ys → AreFresh B M (xs ++ ys)
fresh_append B M [] ys h g = g
fresh_append B M (x ∷ xs) ys h g = (h.0, fresh_append B (after_step M x) xs ys h.1 g)

additions_append : (xs ys : List Step) → additions (xs ++ ys) ≡ additions xs + additions ys
additions_append [] ys = omega arith
additions_append (Add id lits hints groups ∷ xs) ys = let r = additions_append xs ys in omega arith
additions_append (Delete ids ∷ xs) ys = additions_append xs ys

-- ---- texts of steps
-- the limit of the variables is that of the steps, and the limits of the numbers are those of the steps' places
step_within : (most high : ℕ) (f : ℕ → ℕ) (step : Step) → IsStepWithin most step → IsStepWithin high (renumbered f step) → IsStepWithin most (renumbered f step)
step_within most high f (Add id lits hints groups) own h = (h.0, own.1, h.2, h.3)
step_within most high f (Delete ids) own h = h

text_spells : (most high : ℕ) → most < 2 ^ 48 → (f : ℕ → ℕ) (steps : List Step) (text : List ℕ) (top : ℕ) → IsClauseNumber top → LineSpellsWithin most text steps
    → All (IsStepWithin high) (map (renumbered f) steps) → LineSpellsWithin most (text_of top (map (renumbered f) steps)) (map (renumbered f) steps)
text_spells most high few f [] text top number h limits = refl
text_spells most high few f (step ∷ steps) text top number (line, rest, whole, one, first, more) limits =
    let new : Step = renumbered f step in
    let is : IsStepWithin most new = step_within most high f step first.limits (All-head (IsStepWithin high) new (map (renumbered f) steps) limits) in
    spells_cons most few top top new (text_of (top_after top new) (map (renumbered f) steps)) (map (renumbered f) steps) refl number is
    (text_spells most high few f steps rest (top_after top new) (numbered new is) more (All-tail (IsStepWithin high) new (map (renumbered f) steps) limits))
  where
    numbered : (s : Step) → IsStepWithin most s → IsClauseNumber (top_after top s)
    numbered (Add id lits hints groups) is = is.0
    numbered (Delete ids) is = number

-- the number before a log that adds a lemma is a clause number: its first lemma follows from a clause that was live
number_before : (most m : ℕ) (M : ClauseMap) (top : ℕ) (steps : List Step) → AreLogSteps m M top steps → AreBetween top M → All (IsStepWithin most) steps → 0 < additions steps
    → IsClauseNumber top
number_before most m M top [] h between limits some = absurd (omega arith)
number_before most m M top (Add id lits hints groups ∷ steps) ((next, none, rup), rest) between limits some =
    let s = rup.refutes in
    let b = between s.last s.clause s.lives in
    let low = b.0 in
    let up = b.1 in
    let is : IsStepWithin most (Add id lits hints groups) = All-head (IsStepWithin most) (Add id lits hints groups) steps limits in
    let few : id < 2 ^ 48 = is.0.1 in
    (omega arith, omega arith)
number_before most m M top (Delete ids ∷ steps) h between limits some =
    number_before most m (without M ids) top steps h.1 (between_without M top ids between) (All-tail (IsStepWithin most) (Delete ids) steps limits) some

negating_adds : (q : Cube) (step : Step) → Negates q step → additions (step ∷ []) ≡ 1
negating_adds q (Add id lits hints groups) h = refl
negating_adds q (Delete ids) h = absurd h

ending_adds : (q : Cube) (steps : List Step) → EndsAt q steps → 0 < additions steps
ending_adds q steps (front, last, splits, negates) =
    let a = additions_append front (last ∷ []) in
    let b = negating_adds q last negates in
    let c : additions steps ≡ additions (front ++ last ∷ []) = ap additions splits in
    omega arith

negates_behind : (q : Cube) (f : ℕ → ℕ) (step : Step) → Negates q step → Negates q (renumbered f step)
negates_behind q f (Add id lits hints groups) h = h
negates_behind q f (Delete ids) h = h

ends_behind : (q : Cube) (f : ℕ → ℕ) (before steps : List Step) → EndsAt q steps → EndsAt q (before ++ map (renumbered f) steps)
ends_behind q f before steps (front, last, splits, negates) = (
  before ++ map (renumbered f) front,
  renumbered f last,
  ap (λ (xs : List Step). before ++ map (renumbered f) xs) splits
      ∙ ap (λ (xs : List Step). before ++ xs) (map-append (renumbered f) front (last ∷ []))
      ∙ sym (append_assoc before (map (renumbered f) front) (renumbered f last ∷ [])),
  negates_behind q f last negates,
)

-- ---- the log of a search over the kept clauses, behind the resolvents
module _ (F all kept : Cnf) (numbers : List ℕ) (gone : List Bool) (before : List ℕ) (a : AddsResolvents F all before) (k : IsKept all kept numbers gone) where
  more_clauses : length F.clauses ≤ length all.clauses
  more_clauses = let c = a.count in omega arith

  same_vars : kept.vars ≡ F.vars
  same_vars = k.vars ∙ a.vars

  counted : (steps : List Step) → IsLog kept steps → AreLogSteps (length numbers) (map_of kept) (length numbers) steps
  counted steps h = subst (λ m. AreLogSteps m (map_of kept) m steps) (kept_count all kept numbers gone k) h

  later_log : (steps : List Step) → IsLog kept steps → IsLog all (steps_behind numbers (length all.clauses) steps)
  later_log steps h =
      log_behind numbers (length all.clauses) gone k.rising k.within steps (map_of kept) (map_of all) (length numbers) (length all.clauses)
      (begun all kept numbers gone k) (counted steps h)

  pub whole_log : (steps : List Step) → IsLog kept steps → IsLog F (a.steps ++ steps_behind numbers (length all.clauses) steps)
  whole_log steps h =
      log_append (length F.clauses) (map_of F) (length F.clauses) a.steps (steps_behind numbers (length all.clauses) steps) a.log
      (subst (λ (M : ClauseMap). AreLogSteps (length F.clauses) M (top_of (length F.clauses) a.steps) (steps_behind numbers (length all.clauses) steps)) (sym a.live)
      (subst (λ top. AreLogSteps (length F.clauses) (map_of all) top (steps_behind numbers (length all.clauses) steps)) (sym a.top)
      (log_weaker (length F.clauses) (length all.clauses) (map_of all) (length all.clauses) (steps_behind numbers (length all.clauses) steps) more_clauses (later_log steps h))))

  pub whole_fresh : (steps : List Step) → IsLog kept steps → All (Avoids gone) steps → AreFresh kept (map_of kept) steps
      → AreFresh F (map_of F) (a.steps ++ steps_behind numbers (length all.clauses) steps)
  whole_fresh steps h avoid fresh =
      fresh_append F (map_of F) a.steps (steps_behind numbers (length all.clauses) steps) a.fresh
      (subst (λ (M : ClauseMap). AreFresh F M (steps_behind numbers (length all.clauses) steps)) (sym a.live)
      (fresh_behind numbers (length all.clauses) gone k.rising k.within kept F same_vars (kept_count all kept numbers gone k) more_clauses
      steps (map_of kept) (map_of all) (length numbers) (length all.clauses) (begun all kept numbers gone k) (counted steps h) avoid fresh))

  pub whole_count : (steps : List Step) → additions (a.steps ++ steps_behind numbers (length all.clauses) steps) ≡ additions a.steps + additions steps
  whole_count steps =
      additions_append a.steps (steps_behind numbers (length all.clauses) steps) ∙ ap (λ n. additions a.steps + n) (count_behind numbers (length all.clauses) steps)

  pub whole_live : (steps : List Step) → IsLog kept steps → (n : ℕ) (C : Clause) → live_in (after_steps (map_of kept) steps) n C
      → live_in (after_steps (map_of F) (a.steps ++ steps_behind numbers (length all.clauses) steps)) (behind_all numbers (length all.clauses) n) C
  whole_live steps h n C live =
      subst (λ (M : ClauseMap). live_in M (behind_all numbers (length all.clauses) n) C)
      (sym (after_append (map_of F) a.steps (steps_behind numbers (length all.clauses) steps) ∙ ap (λ (M : ClauseMap). after_steps M (steps_behind numbers (length all.clauses) steps)) a.live))
      (live_behind numbers (length all.clauses) gone k.rising k.within steps (map_of kept) (map_of all) (length numbers) (length all.clauses)
      (begun all kept numbers gone k) (counted steps h) n C live)

  pub whole_rises : (n j : ℕ) → length kept.clauses < n → n < j
      → (length F.clauses < behind_all numbers (length all.clauses) n) × (behind_all numbers (length all.clauses) n < behind_all numbers (length all.clauses) j)
  whole_rises n j low lt =
      let c = kept_count all kept numbers gone k in
      let above = place_above numbers (length all.clauses) n (omega arith) in
      let more = more_clauses in
      (omega arith, place_rises_high numbers (length all.clauses) n j (omega arith) lt)

  module _ (log new : List ℕ) (few : F.vars ≤ 199999999) (g : GoesOn numbers (length all.clauses) gone log before new) (steps : List Step) (s : LineSpellsWithin (log_top kept) log steps) where
    pub same_steps : g.steps ≡ steps
    same_steps =
        let v = same_vars in
        let top : log_top kept < 2 ^ 48 = omega arith in
        let own : 199999999 < 2 ^ 48 = omega arith in
        one_list_under 199999999 (log_top kept) own top log g.steps steps g.spelled s

    limits : All (IsStepWithin 199999999) (steps_behind numbers (length all.clauses) steps)
    limits = subst (λ (xs : List Step). All (IsStepWithin 199999999) (steps_behind numbers (length all.clauses) xs)) same_steps g.limits

    pub whole_spelled : IsClauseNumber (length all.clauses) → LineSpellsWithin (log_top F) new (a.steps ++ steps_behind numbers (length all.clauses) steps)
    whole_spelled number =
        let top : log_top F < 2 ^ 48 = omega arith in
        let later : List Step = steps_behind numbers (length all.clauses) steps in
        let text : new ≡ before ++ text_of (length all.clauses) later =
        g.text ∙ ap (λ (xs : List Step). before ++ text_of (length all.clauses) (steps_behind numbers (length all.clauses) xs)) same_steps in
        subst (λ (t : List ℕ). LineSpellsWithin (log_top F) t (a.steps ++ later)) (sym text)
        (spells_append_within (log_top F) before (text_of (length all.clauses) later) a.steps later a.spells
        (text_spells (log_top F) 199999999 top (behind_all numbers (length all.clauses)) steps log (length all.clauses) number
        (subst (λ v. LineSpellsWithin (max 2000000 v) log steps) same_vars s) limits))

    pub number_of_all : IsLog kept steps → 0 < additions steps → IsClauseNumber (length all.clauses)
    number_of_all h some =
        let c = count_behind numbers (length all.clauses) steps in
        number_before 199999999 (length all.clauses) (map_of all) (length all.clauses) (steps_behind numbers (length all.clauses) steps) (later_log steps h)
        (between_formula all) limits (omega arith)

  pub whole_closes : (log new : List ℕ) → F.vars ≤ 199999999 → GoesOn numbers (length all.clauses) gone log before new → Closes kept [] log → Closes F [] new
  whole_closes log new few g (steps, spells, is, ends) = (
    a.steps ++ steps_behind numbers (length all.clauses) steps,
    whole_spelled log new few g steps spells (number_of_all log new few g steps spells is (ending_adds [] steps ends)),
    whole_log steps is,
    ends_behind [] (behind_all numbers (length all.clauses)) a.steps steps ends,
  )
