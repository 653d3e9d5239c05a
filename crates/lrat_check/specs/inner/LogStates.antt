-- The state of a checker of logs from its fields, and this checker as a consumer of lines (TakesLines of lrat_text).
use Rattle.std.specs.Prelude.{ℕ, List}
use Rattle.lrat_text.specs.declared.step.Step.{Step}
use Rattle.lrat_check.specs.Logs.{KeepsFormula, LogState, RefusesLogLine}
use Rattle.lrat_check.specs.inner.LineOutcomes.{step_refusal}
use Rattle.lrat_check.specs.declared.line_checker.CheckFault.{CheckFault}
use Rattle.lrat_check.specs.declared.log.LogClauses.{LogClauses}
use Rattle.lrat_check.specs.declared.log.LogFault.{LogFault}
use Rattle.lrat_check.specs.declared.log.LogFault.TheVariants.{OfStep, NotRup, DeletesBase}

-- the state of a checker of logs from its fields: the greatest variable that a line may have, the live clauses, the number of the next
-- line, the step that was read last
abbrev pub state_of : ℕ → LogClauses → ℕ → Step → LogState
state_of most log line step = record { base = log.base; live = log.clauses; top = log.top; line = line; step = step; cut = log.cut; most = most }

-- the fault of a line whose step has this fault
abbrev pub log_refusal : LogFault → ℕ → CheckFault
log_refusal (OfStep fault) line = step_refusal fault line
log_refusal NotRup line = record { number = 15; line = line; text = 0 }
log_refusal DeletesBase line = record { number = 16; line = line; text = 0 }

-- ---- a checker of logs takes lines
-- the checker can always be given a line
abbrev pub MayTake : LogState → Type 0
MayTake s = Unit {0}

-- the checker refuses a line with this fault, comes from the state old to the state new, and holds the formulas that it held
abbrev pub RefusesAndKeeps : LogState → List ℕ → LogState → CheckFault → Type 0
RefusesAndKeeps old line new fault = RefusesLogLine old line fault × KeepsFormula old new
