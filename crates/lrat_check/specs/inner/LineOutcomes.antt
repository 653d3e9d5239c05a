-- What one line of a proof's text leads to, whatever lines follow it.
use Rattle.std.specs.Prelude.{◌≡◌, ℕ, Bool, List, None, Result, Err}
use Rattle.dimacs.specs.logic.ClauseMap.{ClauseMap}
use Rattle.lrat_text.specs.Parser.{step_within}
use Rattle.lrat_check.specs.State.{State}
use Rattle.lrat_check.specs.FaultNumbers.{step_fault_number}
use Rattle.lrat_check.specs.declared.fault.StepFault.{StepFault}
use Rattle.lrat_check.specs.declared.fault.StepFault.TheVariants.{NoMemory as OutOfMemory}
use Rattle.lrat_check.specs.declared.line_checker.CheckFault.{CheckFault}
use Rattle.lrat_check.specs.ProofFaults.{check_line, no_memory}

-- the line of this number and text, with variables up to most, leads from the state old to the state new without a fault: whatever follows,
-- checking goes on in new
abbrev pub LinePasses : ℕ → State → ℕ → List ℕ → State → Type 0
LinePasses most old line text new =
    (new.fault ≡ None)
    × ((later : Bool → ClauseMap → ℕ → Result (Unit {0}) CheckFault)
    → check_line old.refuted old.live old.top line (step_within most text) later ≡ later new.refuted new.live new.top)

-- the line of this number and text, with variables up to most, has this fault in the state old, whatever follows
abbrev pub LineFails : ℕ → State → ℕ → List ℕ → CheckFault → Type 0
LineFails most old line text fault =
    (later : Bool → ClauseMap → ℕ → Result (Unit {0}) CheckFault) → check_line old.refuted old.live old.top line (step_within most text) later ≡ Err fault

-- the fault of a line whose step has this fault
abbrev pub step_refusal : StepFault → ℕ → CheckFault
step_refusal OutOfMemory line = no_memory
step_refusal fault line = record { number = step_fault_number fault; line = line; text = 0 }
