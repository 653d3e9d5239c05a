-- The formula that a run decides, and the verdict that it holds.
use Rattle.dimacs.specs.logic.Cnf.{Cnf}
use Rattle.lrat_check.specs.declared.verdict.Verdict.{Verdict}
use Rattle.event_loop.specs.declared.run.Run.{Run}

-- the formula that a run decides
abbrev pub formula_of : Run → Cnf
formula_of run = run.dispatcher.coordinator.formula

-- the verdict that a run's coordinator holds; `Nothing` if it holds none
abbrev pub verdict_of : Run → Verdict
verdict_of run = run.dispatcher.coordinator.verdict
