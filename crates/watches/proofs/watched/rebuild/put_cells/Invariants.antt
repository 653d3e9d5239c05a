use Rattle.std.proofs.Common.{◌≡◌, ℕ, ◌+◌, ◌<◌, length, vec_capacity}
use Rattle.watches.specs.inner.WatchLists.{next_of}
use Rattle.watches.proofs.watched.rebuild.put_cells.Given as goal

abbrev pub invariant-loop-i : goal.invariant-loop-i
invariant-loop-i l = record {
  long : length l.places.items ≡ l._i;
  heads : (k : ℕ) → k < l._i → next_of l.places.items k ≡ 0;
  room : vec_capacity l.places ≡ vec_capacity l.fn.places;
}

abbrev pub invariant-loop-list : goal.invariant-loop-list
invariant-loop-list l = record {
  long : length l.places.items ≡ l.lists + l.list;
  heads : (k : ℕ) → k < l.lists → next_of l.places.items k ≡ 0;
  lasts : (k : ℕ) → k < l.list → next_of l.places.items (l.lists + k) ≡ k;
  room : vec_capacity l.places ≡ vec_capacity l.fn.places;
}
