-- Where clauses come from, and that their literals are within the limits.
use Rattle.std.proofs.Common.{◌≡◌, ℕ, zero, suc, ◌≤◌, inl, inr, ◌⊎◌, List, [], ◌∷◌, ◌++◌, length, map, take, drop, Some, sym, ◌∙◌, ap, subst, arith}
use Rattle.std.specs.Prelude.{fold}
use Rattle.std.specs.List.{All, Contains}
use Rattle.std.specs.FinMap.{get, insert}
use Rattle.std.proofs.lemmas.Bool.{cases_eq}
use Rattle.std.proofs.lemmas.List.Elements.{All-head, All-tail, Contains-append_cases}
use Rattle.dimacs.specs.logic.ClauseMap.{ClauseMap}
use Rattle.dimacs.specs.logic.Cnf.{Cnf}
use Rattle.dimacs.specs.logic.Literal.{Clause, IsWithin}
use Rattle.dimacs.proofs.Members.{Contains-head, Contains-cons, Contains-cons_cases, Contains-nil}
use Rattle.icnf.specs.Leaves.{Cube}
use Rattle.lrat_text.specs.Grammar.{IsStepWithin}
use Rattle.lrat_text.specs.Log.{AreLogSteps, log_top}
use Rattle.lrat_text.specs.Proof.{without}
use Rattle.lrat_text.specs.Runs.{after_steps}
use Rattle.lrat_text.specs.declared.step.Step.{Step}
use Rattle.lrat_text.specs.declared.step.Step.TheVariants.{Add, Delete}
use Rattle.proof_join.specs.RenumberedSteps.{behind, renumbered}
use Rattle.proof_join.proofs.LogLemmas.{Adds}
use Rattle.proof_join.proofs.MapLemmas.{AreBetween, between_without, get_here, get_other, without_live}
use Rattle.proof_join.proofs.TreeLemmas.{AreSmall}
use Rattle.log_join.specs.JoinedLogs.{Handed, deletions_in, deletions, deleted, lemmas_of, JoinState, nothing, with_log, joined_so_far, AreWritten}

-- ---- what is live was added, or live before
pub live_added : (M : ClauseMap) (steps : List Step) (n : ℕ) (C : Clause) → get (after_steps M steps) n ≡ Some C → (get M n ≡ Some C) ⊎ Adds C steps
live_added M [] n C e = inl e
live_added M (Add id lits hints groups ∷ steps) n C e = elim (live_added (insert M id lits) steps n C e) [
  | inr a ↦ inr (a.0, a.1, a.2, Contains-cons (Add id lits hints groups) (Add a.0 C a.1 a.2) steps a.3)
  | inl before ↦ elim (cases_eq n id) [
    | inr d ↦ inl (sym (get_other M id n lits d) ∙ before)
    | inl s ↦
        let found : get (insert M id lits) n ≡ Some lits = ap (get (insert M id lits)) s ∙ get_here M id lits in
        let same_clause : lits ≡ C = some_same lits C (sym found ∙ before) in
        inr (id, hints, groups, subst (λ (D : Clause). Contains (Add id lits hints groups ∷ steps) (Add id D hints groups)) same_clause (Contains-head (Add id lits hints groups) steps))
  ]
]
  where
    some_same : (D E : Clause) → Some D ≡ Some E → D ≡ E
    some_same D E h = cc
live_added M (Delete ids ∷ steps) n C e = elim (live_added (without M ids) steps n C e) [
  | inr a ↦ inr (a.0, a.1, a.2, Contains-cons (Delete ids) (Add a.0 C a.1 a.2) steps a.3)
  | inl before ↦ inl (without_live M ids n C before)
]

-- a log that adds something stands over a clause
pub log_some : (m : ℕ) (M : ClauseMap) (top : ℕ) (steps : List Step) (C : Clause) → AreLogSteps m M top steps → AreBetween top M → Adds C steps → 1 ≤ top
log_some m M top [] C h between a = absurd (Contains-nil (Add a.0 C a.1 a.2) a.3)
log_some m M top (Add id lits hints groups ∷ steps) C ((next, none, rup), rest) between a =
    let s = rup.refutes in
    let r = between s.last s.clause s.lives in
    let x = r.0 in
    let y = r.1 in
    omega arith
log_some m M top (Delete ids ∷ steps) C (h, rest) between a =
    log_some m (without M ids) top steps C rest (between_without M top ids between) (elim (Contains-cons_cases (Delete ids) (Add a.0 C a.1 a.2) steps a.3) [
      | inl e ↦ absurd cc
      | inr later ↦ (a.0, a.1, a.2, later)
    ])

-- ---- clauses stay within the limits of a line
pub small_append : (most : ℕ) (xs ys : List Step) → AreSmall most xs → AreSmall most ys → AreSmall most (xs ++ ys)
small_append most xs ys h g id lits hints groups inside = elim (Contains-append_cases xs ys (Add id lits hints groups) inside) [
  | inl a ↦ h id lits hints groups a
  | inr b ↦ g id lits hints groups b
]

renumbered_small : (most : ℕ) (f : ℕ → ℕ) (steps : List Step) → All (IsStepWithin most) steps → AreSmall most (map (renumbered f) steps)
renumbered_small most f [] h id lits hints groups inside = absurd (Contains-nil (Add id lits hints groups) inside)
renumbered_small most f (step ∷ steps) h id lits hints groups inside = elim (Contains-cons_cases (renumbered f step) (Add id lits hints groups) (map (renumbered f) steps) inside) [
  | inl e ↦ one step (All-head (IsStepWithin most) step steps h) e
  | inr later ↦ renumbered_small most f steps (All-tail (IsStepWithin most) step steps h) id lits hints groups later
]
  where
    one : (s : Step) → IsStepWithin most s → renumbered f s ≡ Add id lits hints groups → All (IsWithin most) lits
    one (Add n C more gs) limits e = let same_clause : C ≡ lits = cc in subst (All (IsWithin most)) same_clause limits.1
    one (Delete ids) limits e = absurd cc

lines_small : (most lines : ℕ) (ids : List ℕ) → AreSmall most (deletions_in lines ids)
lines_small most zero ids id lits hints groups inside = absurd (Contains-nil (Add id lits hints groups) inside)
lines_small most (suc lines) [] id lits hints groups inside = absurd (Contains-nil (Add id lits hints groups) inside)
lines_small most (suc lines) (n ∷ ids) id lits hints groups inside =
    elim (Contains-cons_cases (Delete (take 1000 (n ∷ ids))) (Add id lits hints groups) (deletions_in lines (drop 1000 (n ∷ ids))) inside) [
      | inl e ↦ absurd cc
      | inr later ↦ lines_small most lines (drop 1000 (n ∷ ids)) id lits hints groups later
    ]

log_small : (F : Cnf) (g : JoinState) (h : Handed) → All (IsStepWithin (log_top F)) h.steps → AreSmall (log_top F) g.steps → AreSmall (log_top F) (with_log F g h).steps
log_small F g h limits small =
    let moved : List Step = map (renumbered (behind (length F.clauses) g.top)) h.steps in
    let ids : List ℕ = deleted h.accepted g.leaves (lemmas_of F g.top h.steps) in
    small_append (log_top F) (g.steps ++ moved) (deletions ids) (small_append (log_top F) g.steps moved small (renumbered_small (log_top F) (behind (length F.clauses) g.top) h.steps limits)) (lines_small (log_top F) (length ids) ids)

logs_small : (F : Cnf) (g : JoinState) (logs : List Handed) → AreWritten F logs → AreSmall (log_top F) g.steps → AreSmall (log_top F) (fold (with_log F) g logs).steps
logs_small F g [] limits small = small
logs_small F g (h ∷ logs) limits small =
    logs_small F (with_log F g h) logs (All-tail (λ (x : Handed). All (IsStepWithin (log_top F)) x.steps) h logs limits) (log_small F g h (All-head (λ (x : Handed). All (IsStepWithin (log_top F)) x.steps) h logs limits) small)

pub gathered_small : (F : Cnf) (cubes : List Cube) (logs : List Handed) → AreWritten F logs → AreSmall (log_top F) (joined_so_far F cubes logs).steps
gathered_small F cubes logs limits = logs_small F (nothing F cubes) logs limits (λ id lits hints groups inside. absurd (Contains-nil (Add id lits hints groups) inside))
