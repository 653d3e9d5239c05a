use Rattle.std.proofs.Common.{◌-◌, ◌≤◌, length}
use Rattle.watches.proofs.watched.lookup.place_of.Given as goal

abbrev pub invariant-loop-low : goal.invariant-loop-low
invariant-loop-low l = record {
  in_order : l.low ≤ l.high;
  in_range : l.high ≤ length l.clauses;
}

abbrev pub decreases-loop-low : goal.decreases-loop-low
decreases-loop-low l = l.high - l.low
