-- What is right over some live clauses is right over all of them.
use Rattle.std.proofs.Common.{◌≡◌, ℕ, inl, inr, List, [], ◌∷◌, map, Option, None, Some, refl, sym, ◌∙◌, subst}
use Rattle.std.specs.Prelude.{IsSome}
use Rattle.std.specs.FinMap.{get, insert}
use Rattle.std.proofs.lemmas.Bool.{cases_eq, false≢true}
use Rattle.std.proofs.lemmas.List.Elements.{All-weaker}
use Rattle.dimacs.specs.logic.ClauseMap.{ClauseMap, live_in}
use Rattle.dimacs.specs.logic.Literal.{Literal, Clause, negation}
use Rattle.dimacs.specs.logic.Propagation.{Rup}
use Rattle.lrat_text.specs.Log.{after_step, top_after}
use Rattle.lrat_text.specs.Proof.{without}
use Rattle.lrat_text.specs.Runs.{after_steps}
use Rattle.lrat_text.specs.declared.step.Step.{Step}
use Rattle.lrat_text.specs.declared.step.Step.TheVariants.{Add, Delete}
use Rattle.lrat_text.proofs.ClauseMapLemmas.{get_here, get_other}
use Rattle.cube_solve.proofs.DeletionLemmas.{map_less, some_is}
use Rattle.cube_solve.proofs.LogLemmas.{rup_same}
use Rattle.cube_solve.proofs.MapLemmas.{twins_itself}
use Rattle.cube_solve.specs.SessionLog.{AreRightSteps, IsFailure, IsRightStep}
use Rattle.cell_worker.specs.WorkerLog.{IsPartOf}

-- ---- parts
pub part_all : (M : ClauseMap) → IsPartOf M M
part_all M n C l = l

pub part_insert : (M N : ClauseMap) (n : ℕ) (C : Clause) → IsPartOf M N → IsPartOf (insert M n C) (insert N n C)
part_insert M N n C h q D l = elim (cases_eq q n) [
  | inl e ↦
      let here : live_in (insert M n C) n D = subst (λ k. live_in (insert M n C) k D) e l in
      subst (λ k. live_in (insert N n C) k D) (sym e) (get_here N n C ∙ sym (get_here M n C) ∙ here)
  | inr ne ↦ get_other N n q C ne ∙ h q D (sym (get_other M n q C ne) ∙ l)
]

part_without : (M N : ClauseMap) (ids : List ℕ) → IsPartOf M N → IsPartOf (without M ids) (without N ids)
part_without M N ids h q D l = let w = (map_less M ids).was q D l in (map_less N ids).stays q D (h q D w.1) w.0

pub part_step : (M N : ClauseMap) (x : Step) → IsPartOf M N → IsPartOf (after_step M x) (after_step N x)
part_step M N (Add id lits hints groups) h = part_insert M N id lits h
part_step M N (Delete ids) h = part_without M N ids h

pub part_steps : (M N : ClauseMap) (xs : List Step) → IsPartOf M N → IsPartOf (after_steps M xs) (after_steps N xs)
part_steps M N [] h = h
part_steps M N (x ∷ xs) h = part_steps (after_step M x) (after_step N x) xs (part_step M N x h)

-- ---- what is right
pub rup_part : (M N : ClauseMap) (C : Clause) (hints : List ℕ) → IsPartOf M N → Rup (live_in M) C hints → Rup (live_in N) C hints
rup_part M N C hints h r = rup_same (live_in M) (live_in N) (λ n D l. (D, h n D l, twins_itself D)) C hints r

some_live : (o : Option Clause) → IsSome o → (D : Clause) × (o ≡ Some D)
some_live None h = absurd (false≢true h)
some_live (Some D) h = (D, refl)

some_part : (M N : ClauseMap) (id : ℕ) → IsPartOf M N → IsSome (get M id) → IsSome (get N id)
some_part M N id h i = let d = some_live (get M id) i in some_is (get N id) d.0 (h id d.0 d.1)

right_one : (given : List ℕ) (M N : ClauseMap) (top : ℕ) (x : Step) → IsPartOf M N → IsRightStep given M top x → IsRightStep given N top x
right_one given M N top (Add id lits hints groups) h r = (r.0, r.1, rup_part M N lits hints h r.2)
right_one given M N top (Delete ids) h r = (r.0, r.1, All-weaker (λ id. IsSome (get M id)) (λ id. IsSome (get N id)) (λ id i. some_part M N id h i) ids r.2, r.3)

pub right_part : (most : ℕ) (given : List ℕ) (M N : ClauseMap) (top : ℕ) (xs : List Step) → IsPartOf M N → AreRightSteps most given M top xs → AreRightSteps most given N top xs
right_part most given M N top [] h r = tt
right_part most given M N top (x ∷ xs) h r =
    (r.0, right_one given M N top x h r.1, right_part most given (after_step M x) (after_step N x) (top_after top x) xs (part_step M N x h) r.2)

pub failure_part : (M N : ClauseMap) (core : List Literal) (hints : List ℕ) → IsPartOf M N → IsFailure M core hints → IsFailure N core hints
failure_part M N core hints h (inl t) = inl t
failure_part M N core hints h (inr r) = inr (rup_part M N (map negation core) hints h r)
