use Rattle.std.proofs.Common.{length}
use Rattle.lrat_trim.proofs.rewriter.rewrite.Given as goal

abbrev pub decreases-loop-rank : goal.decreases-loop-rank
decreases-loop-rank l = length l.lines
