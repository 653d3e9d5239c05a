-- What the code does for a line.
use Rattle.std.specs.Prelude.{◌≡◌, ◌⊎◌, ℕ, ◌+◌, List, [], ◌++◌, None, Ok, Err}
use Rattle.lrat_check.specs.ProofFaults.{no_memory}
use Rattle.lrat_check.specs.Logs.{TakesLogLine, log_step_fault}
use Rattle.lrat_check.specs.declared.line_checker.CheckFault.{CheckFault}
use Rattle.lrat_text.specs.Log.{after_step, top_after}
use Rattle.lrat_text.specs.Runs.{text_of}
use Rattle.lrat_text.specs.LineSink.{HandsOn}
use Rattle.lrat_text.specs.WrittenLine.{line_of}
use Rattle.lrat_text.specs.declared.step.Step.{Step}
use Rattle.lidrup.specs.Lidrup.{LidrupState, LineResult, LidrupResult, prepend, empty_after, lidrup_line, lidrup_text}
use Rattle.lidrup.specs.View.{state_of}
use Rattle.lidrup.specs.inner.Faults.{numbers_of}
use Rattle.lidrup.specs.declared.fault.LineFault.{LineFault}
use Rattle.lidrup.specs.declared.fault.LineFault.TheVariants.{NoMemory}
use Rattle.lidrup.specs.declared.translator.Translator.{Translator}
use Rattle.lidrup.specs.declared.cube_lines.CubeLines.{CubeLines}
use Rattle.lidrup.specs.declared.checked_log.CheckedLog.{CheckedLog}

-- the log took a step, and its line was appended
pub record LogsStep (old : CheckedLog) (step : Step) (new : CheckedLog) (before after : List ℕ) : Type 0 where
  pub fits : log_step_fault old.checker.base old.checker.live old.checker.top step ≡ None
  pub live : new.checker.live ≡ after_step old.checker.live step
  pub top : new.checker.top ≡ top_after old.checker.top step
  pub base : new.checker.base ≡ old.checker.base
  pub empty : new.empty ≡ empty_after old.empty step
  pub hands : HandsOn TakesLogLine old.checker (line_of old.checker.top step) new.checker []
  pub out : after ≡ before ++ line_of old.checker.top step
  pub most : new.checker.most ≡ old.checker.most

-- the steps of a line were taken: their lines were appended to the output, and `new` is the new state
pub record CarriesOut (taken : LineResult) (old new : Translator) (before after : List ℕ) : Type 0 where
  pub steps : List Step
  pub is : taken ≡ Ok (steps, state_of new)
  pub base : new.log.checker.base ≡ old.log.checker.base
  pub hands : HandsOn TakesLogLine old.log.checker (text_of old.log.checker.top steps) new.log.checker []
  pub out : after ≡ before ++ text_of old.log.checker.top steps
  pub most : new.log.checker.most ≡ old.log.checker.most

-- the line was refused with this fault, or memory was refused
abbrev pub FailsAs : LineResult → LineFault → Type 0
FailsAs taken f = (f ≡ NoMemory) ⊎ (taken ≡ Err (numbers_of f))

-- ---- lines that are handed on
-- every line may be taken
abbrev pub MayTake : CubeLines → Type 0
MayTake c = Unit {0}

-- the line is taken: its lines of the log are appended to `out`, and the text goes on in the new state
pub record TakesLidrupLine (old : CubeLines) (line : List ℕ) (new : CubeLines) : Type 0 where
  pub made : List ℕ
  pub out : new.out.items ≡ old.out.items ++ made
  pub goes_on : (later : LidrupState → LidrupResult) → lidrup_line old.known.log.checker.most old.known.log.checker.base (state_of old.known) old.line line later ≡ prepend made (later (state_of new.known))
  pub hands : HandsOn TakesLogLine old.known.log.checker made new.known.log.checker []
  pub base : new.known.log.checker.base ≡ old.known.log.checker.base
  pub next : new.line ≡ old.line + 1
  pub most : new.known.log.checker.most ≡ old.known.log.checker.most

-- the line has this fault, whatever follows
abbrev pub LineFails : CubeLines → List ℕ → CheckFault → Type 0
LineFails old line fault = (later : LidrupState → LidrupResult) → lidrup_line old.known.log.checker.most old.known.log.checker.base (state_of old.known) old.line line later ≡ Err fault

-- the line is refused with this fault: it has the fault, or memory was refused
abbrev pub RefusesLidrupLine : CubeLines → List ℕ → CubeLines → CheckFault → Type 0
RefusesLidrupLine old line new fault = (fault ≡ no_memory) ⊎ LineFails old line fault

-- the unfinished line and a piece lead from one state to the other: whatever follows, the text becomes the bytes `made` and what the rest
-- becomes from the new state
pub record Leads (begun : List ℕ) (old : CubeLines) (piece rest : List ℕ) (new : CubeLines) : Type 0 where
  pub made : List ℕ
  pub out : new.out.items ≡ old.out.items ++ made
  pub hands : HandsOn TakesLogLine old.known.log.checker made new.known.log.checker []
  pub goes_on : (more : List ℕ) → lidrup_text old.known.log.checker.most old.known.log.checker.base (state_of old.known) old.line (begun ++ (piece ++ more))
      ≡ prepend made (lidrup_text new.known.log.checker.most new.known.log.checker.base (state_of new.known) new.line (rest ++ more))

-- the unfinished line and a piece lead to this fault, whatever follows; or memory was refused
abbrev pub LeadsToFault : List ℕ → CubeLines → List ℕ → CheckFault → Type 0
LeadsToFault begun old piece fault =
    (fault ≡ no_memory) ⊎ ((more : List ℕ) → lidrup_text old.known.log.checker.most old.known.log.checker.base (state_of old.known) old.line (begun ++ (piece ++ more)) ≡ Err fault)
