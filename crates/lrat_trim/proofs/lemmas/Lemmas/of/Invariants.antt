use Rattle.std.proofs.Common.{length}
use Rattle.lrat_trim.proofs.lemmas.Lemmas.of.Given as goal

abbrev pub decreases-loop-line : goal.decreases-loop-line
decreases-loop-line l = length l.lines
