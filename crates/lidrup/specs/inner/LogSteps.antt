-- What the log's checker does with a step.
use Rattle.std.specs.Prelude.{◌≡◌, ◌⊎◌, ℕ, List, [], ◌==◌, Some, None, option_map, if◌then◌else◌}
use Rattle.lrat_check.specs.Logs.{LogState, TakesLogLine, log_step_fault}
use Rattle.lrat_check.specs.declared.line_checker.CheckFault.{CheckFault}
use Rattle.lrat_text.specs.Log.{after_step, top_after}
use Rattle.lrat_text.specs.LineSink.{HandsOn}
use Rattle.lrat_text.specs.WrittenLine.{line_of}
use Rattle.lrat_text.specs.declared.step.Step.{Step}
use Rattle.lidrup.specs.inner.Faults.{numbers_of}
use Rattle.lidrup.specs.declared.fault.LineFault.{LineFault}
use Rattle.lidrup.specs.declared.fault.LineFault.TheVariants.{NoMemory, OfLog}

-- the checker took the step's line, which was written to `made` and begins with the number `front` if it is a deletion
pub record ChecksStep (front : ℕ) (old : LogState) (step : Step) (new : LogState) (made : List ℕ) : Type 0 where
  pub fits : log_step_fault old.base old.live old.top step ≡ None
  pub live : new.live ≡ after_step old.live step
  pub top : new.top ≡ top_after old.top step
  pub base : new.base ≡ old.base
  pub hands : HandsOn TakesLogLine old (line_of front step) new []
  pub made_is : made ≡ line_of front step
  pub most : new.most ≡ old.most

-- the fault of the line whose step the checker refused
abbrev pub fault_of_log : CheckFault → LineFault
fault_of_log fault = if fault.number == 14 then NoMemory else OfLog fault.number

-- the step has this fault, or memory was refused
abbrev pub RefusesStep : LogState → Step → LineFault → Type 0
RefusesStep old step f = (f ≡ NoMemory) ⊎ (option_map (λ n. (n, 0)) (log_step_fault old.base old.live old.top step) ≡ Some (numbers_of f))
