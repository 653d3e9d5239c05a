use Rattle.std.proofs.Common.{◌≡◌, ◌+◌, ◌-◌, ◌≤◌, max, length}
use Rattle.clause_arena.specs.inner.Slots.{slots_of, IsApart}
use Rattle.clause_arena.proofs.slot_map.SlotMap.make_place.Given as goal

abbrev pub invariant-loop-self : goal.invariant-loop-self
invariant-loop-self l = record {
  same : slots_of l.self ≡ slots_of l.fn.self;
  apart : IsApart l.self;
  far : l.self.far ≡ l.fn.self.far;
  few : length l.self.near ≤ max (length l.fn.self.near) (l.place + 1);
}

abbrev pub decreases-loop-self : goal.decreases-loop-self
decreases-loop-self l = l.place + 1 - length l.self.near
