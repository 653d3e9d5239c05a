-- The lines of logs, which are checked and appended to the joined proof. In each definition `written` has the bytes of the proof that are
-- already handed out.
use Rattle.std.specs.Prelude.{◌≡◌, ℕ, ◌++◌, List, length}
use Rattle.dimacs.specs.logic.ClauseMap.{map_of}
use Rattle.dimacs.specs.logic.Cnf.{Cnf}
use Rattle.icnf.specs.Leaves.{Cube}
use Rattle.lrat_check.specs.Logs.{LogState, HoldsFormula}
use Rattle.lrat_text.specs.Runs.{after_steps, top_of}
use Rattle.lrat_text.specs.declared.step.Step.{Step}
use Rattle.log_join.specs.JoinedLogs.{Handed}
use Rattle.log_join.specs.Written.{BetweenLogs, WithinLog}
use Rattle.leaves.specs.declared.checked_lines.CheckedLines.{CheckedLines}

-- the checker has checked these steps of a log over the formula, and no more
pub record IsAfterSteps (F : Cnf) (log : List Step) (s : LogState) : Type 0 where
  pub base : s.base ≡ length F.clauses
  pub live : s.live ≡ after_steps (map_of F) log
  pub top : s.top ≡ top_of (length F.clauses) log
  pub stands : HoldsFormula F s

-- formula, cubes of the tree, the ended logs, `written`, the lines: no log is being read, and the whole proof so far (`written` and then
-- the bytes not handed out yet) is joined of the ended logs
pub record IsBetweenLogs (F : Cnf) (cubes : List Cube) (logs : List Handed) (written : List ℕ) (l : CheckedLines) : Type 0 where
  pub between : BetweenLogs F cubes logs l.joiner (written ++ l.out.items)
  pub stands : HoldsFormula F l.checker

-- formula, cubes of the tree, the ended logs, steps of the log that is being read, `written`, the lines: each of these steps is checked,
-- and is in the whole proof so far (`written` and then the bytes not handed out yet)
pub record IsWithinLog (F : Cnf) (cubes : List Cube) (logs : List Handed) (log : List Step) (written : List ℕ) (l : CheckedLines) : Type 0 where
  pub within : WithinLog F cubes logs log l.joiner (written ++ l.out.items)
  pub after : IsAfterSteps F log l.checker
