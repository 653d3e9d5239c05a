use Rattle.std.proofs.Common.{◌≡◌, ◌≤◌, List, length}
use Rattle.commands.specs.inner.Receipts.{IsAt}
use Rattle.log_join.specs.ClosedLeaves.{Leaf, open_from}
use Rattle.commands.proofs.closed_leaves.put_closed.Given as goal

abbrev pub invariant-loop-place : goal.invariant-loop-place
invariant-loop-place l = record {
  low : l.at ≤ l.place;
  told : (leaves : List Leaf) → l.missing ≡ open_from 0 leaves → length leaves ≡ l.count → IsAt l.missing leaves l.initial.out.items l.place l.at l.out.items;
}
