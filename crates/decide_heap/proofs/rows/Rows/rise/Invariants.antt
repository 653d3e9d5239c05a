use Rattle.std.proofs.Common.{◌≡◌, ℕ, ◌<◌, ◌≤◌, get_or}
use Rattle.decide_heap.specs.inner.Heap.{tables_of, filled, AreRows, AreMoved, IsRisingAt}
use Rattle.decide_heap.proofs.rows.Rows.rise.Given as goal

-- with the variable put down where the hole is, the lists are inverse, and only the way up from there may be out of order
abbrev pub invariant-loop-at : goal.invariant-loop-at
invariant-loop-at l = record {
  within : l.at ≤ l.start;
  moved : AreMoved (tables_of l.fn.self) (tables_of l.self);
  rows : AreRows (filled (tables_of l.self) l.at l.var);
  rising : IsRisingAt (filled (tables_of l.fn.self) l.start l.var) l.start → IsRisingAt (filled (tables_of l.self) l.at l.var) l.at;
  beyond : (k : ℕ) → l.start < k → get_or (filled (tables_of l.self) l.at l.var).heap k 0 ≡ get_or (filled (tables_of l.fn.self) l.start l.var).heap k 0;
}

abbrev pub decreases-loop-at : goal.decreases-loop-at
decreases-loop-at l = l.at
