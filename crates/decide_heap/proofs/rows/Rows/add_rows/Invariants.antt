use Rattle.std.proofs.Common.{◌≡◌, ◌-◌, ◌≤◌, ◌++◌, max, false, length, replicate}
use Rattle.decide_heap.specs.Heap.{members_of}
use Rattle.decide_heap.specs.inner.Heap.{tables_of, IsHeap, HaveRoom}
use Rattle.decide_heap.proofs.rows.Rows.add_rows.Given as goal

-- the rows before this one are there
abbrev pub invariant-loop-row : goal.invariant-loop-row
invariant-loop-row l = record {
  heap : IsHeap (tables_of l.self);
  row : l.row ≡ length l.self.scores.items;
  top : l.row ≤ max (length l.fn.self.scores.items) l.vars;
  len : l.self.len ≡ l.fn.self.len;
  members : members_of l.self.places.items l.self.len ≡ members_of l.fn.self.places.items l.fn.self.len ++ replicate (l.row - length l.fn.self.scores.items) false;
  scores : l.self.scores.items ≡ l.fn.self.scores.items ++ replicate (l.row - length l.fn.self.scores.items) 0;
  room : HaveRoom l.self l.vars;
}
