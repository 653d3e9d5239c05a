-- A lifter as a taker of lines: the relations that `TakesLines` of lrat_text asks for.
use Rattle.std.specs.Prelude.{◌≡◌, ◌⊎◌, ℕ, ◌+◌, List, ◌++◌, Err, length}
use Rattle.lrat_text.specs.Log.{log_top}
use Rattle.lrat_text.specs.Parser.{step_within}
use Rattle.lrat_check.specs.ProofFaults.{no_memory}
use Rattle.lrat_check.specs.declared.line_checker.CheckFault.{CheckFault}
use Rattle.proof_lift.specs.LiftedText.{LiftState, LiftResult, prepend, lift_line}
use Rattle.proof_lift.specs.inner.Ready.{IsReady, SameLeaf, state_of}
use Rattle.proof_lift.specs.inner.Output.{IsPrefix}
use Rattle.proof_lift.specs.declared.step_lifter.StepLifter.{StepLifter}
use Rattle.proof_lift.specs.declared.line_lifter.LineLifter.{LineLifter}

-- the line has no fault: whatever follows, these bytes are written and lifting goes on in the new state
abbrev pub LineLifts : StepLifter → ℕ → List ℕ → List ℕ → StepLifter → Type 0
LineLifts old line text appended new =
    (later : LiftState → LiftResult) → lift_line old.cube.items (length old.images.formula.clauses) (state_of old) line (step_within (log_top old.images.formula) text) later ≡ prepend appended (later (state_of new))

-- the line has this fault, whatever follows
abbrev pub LineFails : StepLifter → ℕ → List ℕ → CheckFault → Type 0
LineFails old line text fault =
    (later : LiftState → LiftResult) → lift_line old.cube.items (length old.images.formula.clauses) (state_of old) line (step_within (log_top old.images.formula) text) later ≡ Err fault

-- the lifter may take a line: it is ready for the line of the next number
abbrev pub MayTake : LineLifter → Type 0
MayTake c = IsReady c.line c.lifting

-- the line is taken: its lines of the log are appended to `out`, and lifting goes on in the new state
pub record Takes (old : LineLifter) (line : List ℕ) (new : LineLifter) : Type 0 where
  pub appended : List ℕ
  pub out : new.out.items ≡ old.out.items ++ appended
  pub goes_on : LineLifts old.lifting old.line line appended new.lifting
  pub leaf : SameLeaf old.lifting new.lifting
  pub next : new.line ≡ old.line + 1

-- the line is refused with this fault; nothing of `out` is lost
pub record Refuses (old : LineLifter) (line : List ℕ) (new : LineLifter) (fault : CheckFault) : Type 0 where
  pub front : IsPrefix old.out.items new.out.items
  pub stops : (fault ≡ no_memory) ⊎ LineFails old.lifting old.line line fault
