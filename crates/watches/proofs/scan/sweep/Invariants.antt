use Rattle.watches.proofs.ScanLemmas.{Swept}
use Rattle.watches.proofs.scan.sweep.Given as goal

abbrev pub invariant-loop-at : goal.invariant-loop-at
invariant-loop-at l = Swept l.clauses l.arena l.fn.trail l.trail l.at-index
