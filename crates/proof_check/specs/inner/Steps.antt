-- One step of a proof: the state of the checker before and after it, and the checker of steps as a consumer (TakesSteps of lrat_binary).
use Rattle.std.specs.Prelude.{◌≡◌, ◌⊎◌, ℕ, ◌+◌, Bool, None, Result, Ok, Err}
use Rattle.dimacs.specs.logic.ClauseMap.{ClauseMap}
use Rattle.lrat_text.specs.declared.step.Step.{Step}
use Rattle.lrat_check.specs.ProofFaults.{check_line, no_memory}
use Rattle.lrat_check.specs.State.{State}
use Rattle.lrat_check.specs.declared.line_checker.CheckFault.{CheckFault}
use Rattle.proof_check.specs.declared.steps.StepChecker.{StepChecker}

-- the step of number n leads from the state old to the state new without a fault: whatever follows, checking goes on in new
abbrev pub GoesOn : State → ℕ → Step → State → Type 0
GoesOn old n step new =
    (new.fault ≡ None)
    × ((later : Bool → ClauseMap → ℕ → Result (Unit {0}) CheckFault) → check_line old.refuted old.live old.top n (Ok step) later ≡ later new.refuted new.live new.top)

-- the step of number n has this fault in the state old, whatever follows
abbrev pub StopsAt : State → ℕ → Step → CheckFault → Type 0
StopsAt old n step fault = (later : Bool → ClauseMap → ℕ → Result (Unit {0}) CheckFault) → check_line old.refuted old.live old.top n (Ok step) later ≡ Err fault

-- the checker c can be given a step: it has met no fault
abbrev pub MayTake : StepChecker → Type 0
MayTake c = c.checker.fault ≡ None

-- the checker takes a step and comes from old to new
abbrev pub Takes : StepChecker → Step → StepChecker → Type 0
Takes old step new = GoesOn old.checker old.number step new.checker × (new.number ≡ old.number + 1)

-- the checker old refuses a step with this fault: the step's first one, or that memory was refused
abbrev pub Refuses : StepChecker → Step → StepChecker → CheckFault → Type 0
Refuses old step new fault = (fault ≡ no_memory) ⊎ StopsAt old.checker old.number step fault
