-- A step has no fault exactly if a log takes it.
use Rattle.std.proofs.Common.{◌≡◌, ℕ, ◌+◌, ◌<◌, ◌^◌, Bool, true, false, List, [], ◌∷◌, Option, Some, None, Result, Ok, Err, cond, refl, sym, ◌∙◌, ap, subst, arith, length, eqb, drop, get_or, add-one, drop-cons}
use Rattle.std.specs.Prelude.{nat_le, IsSome}
use Rattle.std.specs.List.{AllByRecursion}
use Rattle.std.specs.Option.{is_some}
use Rattle.std.specs.FinMap.{get, remove}
use Rattle.std.proofs.lemmas.Bool.{both_ways, eqb-true, eq-eqb}
use Rattle.std.proofs.lemmas.Bool.Decides.{nat_tests}
use Rattle.std.proofs.lemmas.List.Elements.{All-from_recursion, recursion_from_All}
use Rattle.dimacs.specs.logic.ClauseMap.{ClauseMap, live_in}
use Rattle.dimacs.specs.logic.Literal.{Clause}
use Rattle.dimacs.specs.logic.Propagation.{Rup, negations}
use Rattle.dimacs.specs.logic.Rat.{Group}
use Rattle.lrat_text.specs.Log.{after_step, top_after, IsLogStep}
use Rattle.lrat_text.specs.Parser.{step_within}
use Rattle.lrat_text.specs.declared.fault.TextFault.{TextFault}
use Rattle.lrat_text.specs.declared.step.Step.{Step}
use Rattle.lrat_text.specs.declared.step.Step.TheVariants.{Add, Delete}
use Rattle.lrat_text.proofs.SpellingLemmas.{found_spells_within, spelled_found_within}
use Rattle.lrat_check.specs.StepFaults
use Rattle.lrat_check.specs.StepFaults.{Walk, Through, Conflict, Fault, walk, is_tautology, has_groups, deletion_fault, live_after}
use Rattle.lrat_check.specs.Logs.{LogState, TakesLogLine, after_line, by_fault, line_read, log_line, rup_fault, log_addition_fault, log_deletion_fault, log_step_fault}
use Rattle.lrat_check.specs.declared.fault.StepFault.TheVariants.{UnknownClause}
use Rattle.lrat_check.proofs.Exact.{conflict_refutes, refutes_walk, negations_consistent}
use Rattle.lrat_check.proofs.Pairs.{pair_tautology}
use Rattle.lrat_check.proofs.RatExact.{no_group, no_pair_is}
use Rattle.lrat_check.proofs.Taken.{removed-without, deletion_live, deletion_none}

-- ---- additions
pub rup_from_none : (M : ClauseMap) (top id : ℕ) (C : Clause) (hints : List ℕ) (groups : List Group) → log_addition_fault M top id C hints groups ≡ None
    → (id ≡ top + 1) × (groups ≡ []) × Rup (live_in M) C hints
rup_from_none M top id C hints groups e = number (eqb id (top + 1)) refl e
  where
    along : (w : Walk) → walk M false hints (negations C) ≡ w → rup_fault w ≡ None → walk M false hints (negations C) ≡ Conflict
    along (Through α) is e = absurd cc
    along Conflict is e = is
    along (Fault fault) is e = absurd cc

    group : (c : Bool) → has_groups groups ≡ c → cond c (Some 15) (rup_fault (walk M false hints (negations C))) ≡ None → (groups ≡ []) × (walk M false hints (negations C) ≡ Conflict)
    group true is e = absurd cc
    group false is e = (no_group groups is, along (walk M false hints (negations C)) refl e)

    pair : (c : Bool) → is_tautology C ≡ c → cond c (Some 4) (cond (has_groups groups) (Some 15) (rup_fault (walk M false hints (negations C)))) ≡ None
        → (is_tautology C ≡ false) × (groups ≡ []) × (walk M false hints (negations C) ≡ Conflict)
    pair true is e = absurd cc
    pair false is e = let g = group (has_groups groups) refl e in (is, g.0, g.1)

    number : (c : Bool) → eqb id (top + 1) ≡ c → cond c (cond (is_tautology C) (Some 4) (cond (has_groups groups) (Some 15) (rup_fault (walk M false hints (negations C))))) (Some 2) ≡ None
        → (id ≡ top + 1) × (groups ≡ []) × Rup (live_in M) C hints
    number true is e =
        let p = pair (is_tautology C) refl e in
        (eqb-true id (top + 1) is, p.1, record { no_pair = λ pair. both_ways (is_tautology C) p.0 (pair_tautology C pair); refutes = (conflict_refutes M false hints (negations C) p.2).0 })
    number false is e = absurd cc

pub none_from_rup : (M : ClauseMap) (top id : ℕ) (C : Clause) (hints : List ℕ) (groups : List Group) → (id ≡ top + 1) → (groups ≡ []) → Rup (live_in M) C hints → log_addition_fault M top id C hints groups ≡ None
none_from_rup M top id C hints groups next none rup =
    ap (λ c. cond c (cond (is_tautology C) (Some 4) (cond (has_groups groups) (Some 15) (rup_fault (walk M false hints (negations C))))) (Some 2)) (eq-eqb id (top + 1) next)
    ∙ ap (λ c. cond c (Some 4) (cond (has_groups groups) (Some 15) (rup_fault (walk M false hints (negations C))))) (no_pair_is C rup.no_pair)
    ∙ ap (λ gs. cond (has_groups gs) (Some 15) (rup_fault (walk M false hints (negations C)))) none
    ∙ ap rup_fault (refutes_walk M hints (negations C) (negations_consistent C rup.no_pair) rup.refutes)

-- ---- deletions
above : (id b : ℕ) → nat_le id b ≡ false → b < id
above id b e = grind (arith, nat_tests)

not_below : (id b : ℕ) → b < id → nat_le id b ≡ false
not_below id b h = grind (arith, nat_tests)

own_from_none : (b : ℕ) (M : ClauseMap) (ids : List ℕ) → log_deletion_fault b M ids ≡ None → AllByRecursion (λ id. b < id) ids × (deletion_fault M ids ≡ None)
own_from_none b M [] e = (tt, refl)
own_from_none b M (id ∷ ids) e = at (nat_le id b) refl e (λ f. own_from_none b (remove M id) ids f)
  where
    on : (c : Bool) → is_some (get M id) ≡ c → b < id → cond c (log_deletion_fault b (remove M id) ids) (Some 3) ≡ None
        → (log_deletion_fault b (remove M id) ids ≡ None → AllByRecursion (λ id. b < id) ids × (deletion_fault (remove M id) ids ≡ None))
        → AllByRecursion (λ id. b < id) (id ∷ ids) × (deletion_fault M (id ∷ ids) ≡ None)
    on true is high e rest = let r = rest e in ((high, r.0), ap (λ c. cond c (deletion_fault (remove M id) ids) (Some UnknownClause)) is ∙ r.1)
    on false is high e rest = absurd cc

    at : (c : Bool) → nat_le id b ≡ c → cond c (Some 16) (cond (is_some (get M id)) (log_deletion_fault b (remove M id) ids) (Some 3)) ≡ None
        → (log_deletion_fault b (remove M id) ids ≡ None → AllByRecursion (λ id. b < id) ids × (deletion_fault (remove M id) ids ≡ None))
        → AllByRecursion (λ id. b < id) (id ∷ ids) × (deletion_fault M (id ∷ ids) ≡ None)
    at true is e rest = absurd cc
    at false is e rest = on (is_some (get M id)) refl (above id b is) e rest

none_from_own : (b : ℕ) (M : ClauseMap) (ids : List ℕ) → AllByRecursion (λ id. b < id) ids → deletion_fault M ids ≡ None → log_deletion_fault b M ids ≡ None
none_from_own b M [] high e = refl
none_from_own b M (id ∷ ids) high e = at (is_some (get M id)) refl e (λ f. none_from_own b (remove M id) ids high.1 f)
  where
    at : (c : Bool) → is_some (get M id) ≡ c → cond c (deletion_fault (remove M id) ids) (Some UnknownClause) ≡ None
        → (deletion_fault (remove M id) ids ≡ None → log_deletion_fault b (remove M id) ids ≡ None)
        → log_deletion_fault b M (id ∷ ids) ≡ None
    at true is e rest =
        ap (λ c. cond c (Some 16) (cond (is_some (get M id)) (log_deletion_fault b (remove M id) ids) (Some 3))) (not_below id b high.0)
        ∙ ap (λ c. cond c (log_deletion_fault b (remove M id) ids) (Some 3)) is
        ∙ rest e
    at false is e rest = absurd cc

-- ---- steps
pub log_from_none : (b : ℕ) (M : ClauseMap) (top : ℕ) (step : Step) → log_step_fault b M top step ≡ None → IsLogStep b M top step
log_from_none b M top (Add id lits hints groups) e = rup_from_none M top id lits hints groups e
log_from_none b M top (Delete ids) e =
    let own = own_from_none b M ids e in
    let live = deletion_live M ids own.1 in
    (All-from_recursion (λ id. b < id) ids own.0, All-from_recursion (λ id. IsSome (get M id)) ids live.0, live.1)

pub none_from_log : (b : ℕ) (M : ClauseMap) (top : ℕ) (step : Step) → IsLogStep b M top step → log_step_fault b M top step ≡ None
none_from_log b M top (Add id lits hints groups) (next, none, rup) = none_from_rup M top id lits hints groups next none rup
none_from_log b M top (Delete ids) (own, live, distinct) =
    none_from_own b M ids (recursion_from_All (λ id. b < id) ids own) (deletion_none M ids (recursion_from_All (λ id. IsSome (get M id)) ids live) distinct)

pub live_same : (M : ClauseMap) (step : Step) → live_after M step ≡ after_step M step
live_same M (Add id lits hints groups) = refl
live_same M (Delete ids) = removed-without M ids

pub top_same : (top : ℕ) (step : Step) → StepFaults.top_after top step ≡ top_after top step
top_same top (Add id lits hints groups) = refl
top_same top (Delete ids) = refl

-- ---- lines
-- what a line leads to is said by the step that it spells
pub line_takes : (s t : LogState) (line : List ℕ) → s.most < 2 ^ 48 → log_line s line ≡ Ok t → TakesLogLine s line t
line_takes s t line few e = at (step_within s.most line) refl e
  where
    by : (step : Step) → step_within s.most line ≡ Ok step → (o : Option ℕ) → log_step_fault s.base s.live s.top step ≡ o → by_fault s step o ≡ Ok t → TakesLogLine s line t
    by step is None first e =
        let same : after_line s step ≡ t = cc in
        subst (λ (u : LogState). TakesLogLine s line u) same
        (record { spells = found_spells_within s.most line step is; follows = log_from_none s.base s.live s.top step first; live = refl; top = refl; base = refl; line = refl; cut = refl; few = few; most = refl })
    by step is (Some number) first e = absurd cc

    at : (r : Result Step TextFault) → step_within s.most line ≡ r → line_read s r ≡ Ok t → TakesLogLine s line t
    at (Ok step) is e = by step is (log_step_fault s.base s.live s.top step) refl e
    at (Err fault) is e = absurd cc

pub takes_line : (s t : LogState) (line : List ℕ) → TakesLogLine s line t → log_line s line ≡ Ok t
takes_line s t line h =
    ap (line_read s) (spelled_found_within s.most line t.step h.few h.spells)
    ∙ ap (by_fault s t.step) (none_from_log s.base s.live s.top t.step h.follows)
    ∙ ap (λ (b : ℕ). Ok (record { base = b; live = after_step s.live t.step; top = top_after s.top t.step; line = s.line + 1; step = t.step; cut = 0; most = s.most })) (sym h.base)
    ∙ ap (λ (M : ClauseMap). Ok (record { base = t.base; live = M; top = top_after s.top t.step; line = s.line + 1; step = t.step; cut = 0; most = s.most })) (sym h.live)
    ∙ ap (λ (n : ℕ). Ok (record { base = t.base; live = t.live; top = n; line = s.line + 1; step = t.step; cut = 0; most = s.most })) (sym h.top)
    ∙ ap (λ (n : ℕ). Ok (record { base = t.base; live = t.live; top = t.top; line = n; step = t.step; cut = 0; most = s.most })) (sym h.line)
    ∙ ap (λ (n : ℕ). Ok (record { base = t.base; live = t.live; top = t.top; line = t.line; step = t.step; cut = n; most = s.most })) (sym h.cut)
    ∙ ap (λ (n : ℕ). Ok (record { base = t.base; live = t.live; top = t.top; line = t.line; step = t.step; cut = t.cut; most = n })) (sym h.most)

-- ---- deletions, number by number
pub own_none : (b : ℕ) (M : ClauseMap) (id : ℕ) (ids : List ℕ) → b < id → is_some (get M id) ≡ true → log_deletion_fault b (remove M id) ids ≡ None → log_deletion_fault b M (id ∷ ids) ≡ None
own_none b M id ids high live later =
    ap (λ c. cond c (Some 16) (cond (is_some (get M id)) (log_deletion_fault b (remove M id) ids) (Some 3))) (not_below id b high)
    ∙ ap (λ c. cond c (log_deletion_fault b (remove M id) ids) (Some 3)) live
    ∙ later

pub own_on : (b : ℕ) (M : ClauseMap) (ids : List ℕ) (i : ℕ) → i < length ids → b < get_or ids i 0 → is_some (get M (get_or ids i 0)) ≡ true
    → log_deletion_fault b M (drop i ids) ≡ log_deletion_fault b (remove M (get_or ids i 0)) (drop (i + 1) ids)
own_on b M ids i below high live =
    let id : ℕ = get_or ids i 0 in
    let here : drop i ids ≡ id ∷ drop (i + 1) ids = rw (add-one, drop-cons ids i 0) refl in
    ap (log_deletion_fault b M) here
    ∙ ap (λ c. cond c (Some 16) (cond (is_some (get M id)) (log_deletion_fault b (remove M id) (drop (i + 1) ids)) (Some 3))) (not_below id b high)
    ∙ ap (λ c. cond c (log_deletion_fault b (remove M id) (drop (i + 1) ids)) (Some 3)) live
