use Rattle.std.proofs.Common.{◌-◌, length}
use Rattle.watches.specs.Law.{Grows}
use Rattle.watches.proofs.ScanLemmas.{among}
use Rattle.watches.proofs.scan.sweep_all.Given as goal

abbrev pub invariant-loop-number : goal.invariant-loop-number
invariant-loop-number l = Grows (among l.clauses l.arena) l.fn.trail l.trail

abbrev pub decreases-loop-number : goal.decreases-loop-number
decreases-loop-number l = l.trail.vars - length l.trail.entries
