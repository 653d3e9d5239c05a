use Rattle.std.proofs.Common.{length}
use Rattle.proof_trim.proofs.rewriter.rewrite.Given as goal

abbrev pub decreases-loop-line : goal.decreases-loop-line
decreases-loop-line l = length l.lines
