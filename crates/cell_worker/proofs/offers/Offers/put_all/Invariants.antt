use Rattle.std.proofs.Common.{length}
use Rattle.cell_worker.proofs.offers.Offers.put_all.Given as goal

abbrev pub invariant-lines : goal.invariant-lines
invariant-lines l = Unit {0}

abbrev pub decreases-lines : goal.decreases-lines
decreases-lines l = length l.lines
