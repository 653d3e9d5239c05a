use Rattle.std.proofs.Common.{length}
use Rattle.renumbered_logs.specs.inner.RenumberedLines.{IsUnderWay}
use Rattle.renumbered_logs.proofs.renumbering.Renumbering.append.Given as goal

abbrev pub invariant-loop-line : goal.invariant-loop-line
invariant-loop-line l = IsUnderWay l.self.numbers.now l.self.all l.self.eliminated.now l.fn.log l.fn.text l.rewriter.top l.lines l.text

abbrev pub decreases-loop-line : goal.decreases-loop-line
decreases-loop-line l = length l.lines
