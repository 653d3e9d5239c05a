-- A step, taken by a checker.
use Rattle.std.proofs.Common.{◌≡◌, ℕ, Bool, true, false, None, Ok, refl, sym, ◌∙◌, ap}
use Rattle.lrat_text.specs.declared.step.Step.{Step}
use Rattle.lrat_check.specs.StepFaults.{step_fault, live_after, top_after, adds_empty}
use Rattle.lrat_check.specs.State.{State, IsRunning, StepTaken}
use Rattle.lrat_check.specs.ProofFaults.{check_line, check_step}
use Rattle.lrat_check.proofs.Checked.{adds_empty_is, adds_empty_from}
use Rattle.lrat_check.proofs.Taken.{no_fault_from_taken}
use Rattle.proof_check.specs.inner.Steps.{GoesOn}

same_bool : (a b : Bool) → (a ≡ true → b ≡ true) → (b ≡ true → a ≡ true) → a ≡ b
same_bool true b f g = sym (f refl)
same_bool false true f g = g refl
same_bool false false f g = refl

module _ (old new : State) (step : Step) (n : ℕ) (fine : old.fault ≡ None) where
  passed_over : old.refuted ≡ true → new ≡ old → GoesOn old n step new
  passed_over refuted same = (
    ap (λ (s : State). s.fault) same ∙ fine,
    λ later.
        ap (λ b. check_line b old.live old.top n (Ok step) later) refuted
        ∙ ap (λ b. later b old.live old.top) (sym refuted)
        ∙ ap (λ (s : State). later s.refuted s.live s.top) (sym same),
  )

  taken_on : old.refuted ≡ false → StepTaken old step new → GoesOn old n step new
  taken_on runs taken =
      let exact : (step_fault old.live old.top step ≡ None) × (new.live ≡ live_after old.live step) × (new.top ≡ top_after old.top step)
      = no_fault_from_taken old.live new.live old.top new.top step taken.takes in (
        taken.runs,
        λ later.
            ap (λ b. check_line b old.live old.top n (Ok step) later) runs
            ∙ ap (λ o. check_step n o (later (adds_empty step) (live_after old.live step) (top_after old.top step))) exact.0
            ∙ ap (λ b. later b (live_after old.live step) (top_after old.top step))
            (same_bool (adds_empty step) new.refuted (λ t. taken.refutes.1 (adds_empty_is step t)) (λ t. adds_empty_from step (taken.refutes.0 t)))
            ∙ ap (λ M. later new.refuted M (top_after old.top step)) (sym exact.1)
            ∙ ap (λ t. later new.refuted new.live t) (sym exact.2),
      )

  pub passes : (old.refuted ≡ true → new ≡ old) → (IsRunning old → StepTaken old step new) → GoesOn old n step new
  passes finished running = at old.refuted refl
    where
      at : (b : Bool) → old.refuted ≡ b → GoesOn old n step new
      at true e = passed_over e (finished e)
      at false e = taken_on e (running (e, fine))
