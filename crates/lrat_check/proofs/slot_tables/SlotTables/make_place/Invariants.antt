use Rattle.std.proofs.Common.{◌≡◌, ◌+◌, ◌-◌, length}
use Rattle.lrat_check.specs.inner.Store.{tables_of, live_of, IsStore}
use Rattle.lrat_check.proofs.slot_tables.SlotTables.make_place.Given as goal

abbrev pub invariant-loop-self : goal.invariant-loop-self
invariant-loop-self l = record {
  literals : l.self.literals.items ≡ l.fn.self.literals.items;
  far : l.self.far.slots.items ≡ l.fn.self.far.slots.items;
  same : live_of (tables_of l.self) ≡ live_of (tables_of l.fn.self);
  store : IsStore (tables_of l.self);
}

abbrev pub decreases-loop-self : goal.decreases-loop-self
decreases-loop-self l = l.place + 1 - length l.self.near
