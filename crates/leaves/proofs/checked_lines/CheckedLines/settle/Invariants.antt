use Rattle.std.proofs.Common.{◌≡◌, ℕ, true, ◌++◌, List}
use Rattle.dimacs.specs.logic.Cnf.{Cnf}
use Rattle.log_join.specs.JoinedLogs.{Handed, joined_so_far}
use Rattle.icnf.specs.Leaves.{Cube}
use Rattle.leaves.specs.CheckedLines.{IsWithinLog}
use Rattle.leaves.specs.inner.CheckedLines.{AreHandedOver, TellsClosing}
use Rattle.lrat_text.specs.declared.step.Step.{Step}
use Rattle.leaves.proofs.checked_lines.CheckedLines.settle.Given as goal

abbrev pub invariant-loop-number : goal.invariant-loop-number
invariant-loop-number l = record {
  checker : l.self.checker ≡ l.fn.self.checker;
  out : l.self.out ≡ l.fn.self.out;
  over : (F : Cnf) (cubes : List Cube) (logs : List Handed) (log : List Step) (written : List ℕ) → IsWithinLog F cubes logs log written l.fn.self
      → AreHandedOver F cubes logs (record { steps = log; accepted = l.fn.accepted }) (written ++ l.fn.self.out.items) l.number l.self.joiner;
  told : (F : Cnf) (cubes : List Cube) (logs : List Handed) (log : List Step) (written : List ℕ) → IsWithinLog F cubes logs log written l.fn.self → l.fn.accepted ≡ true
      → TellsClosing F log (joined_so_far F cubes logs).leaves l.self.joiner l.closes;
}
