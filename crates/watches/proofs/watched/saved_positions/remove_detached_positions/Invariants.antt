use Rattle.std.proofs.Common.{◌≡◌, ◌≤◌, length}
use Rattle.watches.proofs.watched.saved_positions.remove_detached_positions.Given as goal

abbrev pub invariant-loop-i : goal.invariant-loop-i
invariant-loop-i l = record {
  behind : l.count ≤ l.i;
  long : length l.positions.items ≡ length l.fn.positions.items;
}
