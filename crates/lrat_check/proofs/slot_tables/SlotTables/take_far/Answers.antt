use Rattle.std.proofs.Common.{◌≡◌, ◌∙◌, None, sym, ap, option_map, arith, subst, refl, IfSome, slice_index_or}
use Rattle.std.proofs.lemmas.List.{get_or_default}
use Rattle.std.specs.FinMap.{get}
use Rattle.std.specs.Ordering.{nat_cmp}
use Rattle.std.specs.BTreeMap as tree
use Rattle.lrat_check.specs.inner.Store.{clause_at, tables_of, place_of, IsPlaced, live_of}
use Rattle.lrat_check.proofs.Slots.{get_far, placed_at, by_number, none_placed, if_placed}
use Rattle.lrat_check.proofs.FarSlots.{free_store, free-remove, far_same}
use Rattle.lrat_check.proofs.Tables.{remove_none}
use Rattle.lrat_check.proofs.slot_tables.SlotTables.take_far.Goals as goal
use Rattle.lrat_check.proofs.slot_tables.SlotTables.take_far.Goals.{After-slot-old, In-None}

pub index-requires : goal.index-requires
index-requires c = omega (arith, (c.requires.store.found c.args.id c.in-Some.place (sym c.in-Some.ensures.value)).1)

pub index_mut-requires : goal.index_mut-requires
index_mut-requires c = omega (arith, (c.requires.store.found c.args.id c.in-Some.place (sym c.in-Some.ensures.value)).1)

slot : (c : After-slot-old) → c.slot-old.result ≡ slice_index_or c.args.self.now.far.slots.items c.in-Some.place None
slot c = c.slot-old.ensures ∙ c.index.ensures ∙ get_or_default c.args.self.now.far.slots.items c.in-Some.place c.index.result.now None (c.requires.store.found c.args.id c.in-Some.place (sym c.in-Some.ensures.value)).1

pub returns-in-Some-clause-old : goal.returns-in-Some-clause-old
returns-in-Some-clause-old c =
    let k = (goal.at.returns-in-Some-clause-old c).After-slot-old in
    ap (option_map (clause_at c.args.self.now.literals.items)) (slot k) ∙ ap (placed_at c.args.self.now.literals.items c.args.self.now.far.slots.items) c.in-Some.ensures.value
    ∙ sym (get_far (tables_of c.args.self.now) c.args.id c.requires.store c.requires.beyond)

pub returns-in-Some-clause-placed : goal.returns-in-Some-clause-placed
returns-in-Some-clause-placed c =
    let k = (goal.at.returns-in-Some-clause-placed c).After-slot-old in
    subst (λ x. IfSome x (IsPlaced c.args.self.now.literals.items)) (sym (slot k)) (if_placed c.args.self.now.literals.items c.args.self.now.far.slots.items c.requires.store.far_placed c.in-Some.place)

pub returns-in-Some-clause-after : goal.returns-in-Some-clause-after
returns-in-Some-clause-after c =
    free-remove (tables_of c.args.self.now) (record { places = c.remove.new.self; numbers = c.args.self.now.far.numbers; slots = Rattle.std.specs.Vec.with_item c.args.self.now.far.slots c.in-Some.place c.free.result })
    c.args.id c.requires.beyond c.requires.store c.in-Some.place (sym c.in-Some.ensures.value) c.free.result (λ s e. none_placed c.args.self.now.literals.items s (sym c.free.ensures ∙ e)) refl refl (by_number c.args.id None (place_of c.args.self.now.far) (λ q. tree.get nat_cmp c.remove.new.self q) c.in-Some.ensures.updates.0) c.free.ensures

pub returns-in-Some-clause-store : goal.returns-in-Some-clause-store
returns-in-Some-clause-store c =
    free_store (tables_of c.args.self.now) (record { places = c.remove.new.self; numbers = c.args.self.now.far.numbers; slots = Rattle.std.specs.Vec.with_item c.args.self.now.far.slots c.in-Some.place c.free.result })
    c.args.id c.requires.beyond c.requires.store c.in-Some.place (sym c.in-Some.ensures.value) c.free.result (λ s e. none_placed c.args.self.now.literals.items s (sym c.free.ensures ∙ e)) refl refl (by_number c.args.id None (place_of c.args.self.now.far) (λ q. tree.get nat_cmp c.remove.new.self q) c.in-Some.ensures.updates.0) c.free.ensures

none : (c : In-None) → get (live_of (tables_of c.args.self.now)) c.args.id ≡ None
none c =
    get_far (tables_of c.args.self.now) c.args.id c.requires.store c.requires.beyond
    ∙ ap (placed_at c.args.self.now.literals.items c.args.self.now.far.slots.items) (sym c.in-None.ensures.value)

pub returns-in-None-clause-old : goal.returns-in-None-clause-old
returns-in-None-clause-old c = sym (none c)

pub returns-in-None-clause-after : goal.returns-in-None-clause-after
returns-in-None-clause-after c =
    (far_same (tables_of c.args.self.now) (record { places = c.remove.new.self; numbers = c.args.self.now.far.numbers; slots = c.args.self.now.far.slots }) c.requires.store c.in-None.ensures.unchanged refl refl).0
    ∙ sym (remove_none (live_of (tables_of c.args.self.now)) c.args.id (none c))

pub returns-in-None-clause-store : goal.returns-in-None-clause-store
returns-in-None-clause-store c =
    (far_same (tables_of c.args.self.now) (record { places = c.remove.new.self; numbers = c.args.self.now.far.numbers; slots = c.args.self.now.far.slots }) c.requires.store c.in-None.ensures.unchanged refl refl).1
