use Rattle.std.proofs.Common.{◌≡◌, ℕ, ◌/◌, ◌≤◌, get_or}
use Rattle.decide_heap.specs.inner.Heap.{tables_of, AreRows, AreMoved, IsOrderedFrom}
use Rattle.decide_heap.proofs.rows.Rows.heapify.Given as goal

-- the places from here on are in order
abbrev pub invariant-loop-at : goal.invariant-loop-at
invariant-loop-at l = record {
  within : l.at ≤ l.fn.self.len / 2;
  moved : AreMoved (tables_of l.fn.self) (tables_of l.self);
  rows : AreRows (tables_of l.self);
  ordered : IsOrderedFrom (tables_of l.self) l.at;
  beyond : (k : ℕ) → l.fn.self.len ≤ k → get_or l.self.heap.items k 0 ≡ get_or l.fn.self.heap.items k 0;
}

abbrev pub decreases-loop-at : goal.decreases-loop-at
decreases-loop-at l = l.at
