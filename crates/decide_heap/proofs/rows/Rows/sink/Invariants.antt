use Rattle.std.proofs.Common.{◌≡◌, ℕ, ◌-◌, ◌<◌, ◌≤◌, length, get_or, set}
use Rattle.decide_heap.specs.inner.Heap.{tables_of, filled, AreRows, AreMoved}
use Rattle.decide_heap.proofs.OrderLemmas.{IsSinking}
use Rattle.decide_heap.proofs.rows.Rows.sink.Given as goal

-- with the variable put down where the hole is, the lists are inverse, and only the way down from there may be out of order
abbrev pub invariant-loop-at : goal.invariant-loop-at
invariant-loop-at l = record {
  start : l.start ≤ l.at;
  within : l.at < length l.self.heap.items;
  moved : AreMoved (tables_of l.fn.self) (tables_of l.self);
  rows : AreRows (filled (tables_of l.self) l.at l.var);
  sinking : IsSinking l.self.scores.items (set l.self.heap.items l.at l.var) l.self.len l.start l.at;
  beyond : (k : ℕ) → l.fn.self.len ≤ k → get_or (filled (tables_of l.self) l.at l.var).heap k 0 ≡ get_or (filled (tables_of l.fn.self) l.start l.var).heap k 0;
}

abbrev pub decreases-loop-at : goal.decreases-loop-at
decreases-loop-at l = l.self.len - l.at
