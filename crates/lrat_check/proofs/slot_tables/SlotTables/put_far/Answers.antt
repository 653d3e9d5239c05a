use Rattle.std.proofs.Common.{◌≡◌, ◌∙◌, None, Some, length, sym, ap, option_map, arith, subst, refl, IfSome, slice_index_or}
use Rattle.std.proofs.lemmas.List.{get_or_default}
use Rattle.lrat_check.specs.inner.Store.{clause_at, tables_of, place_of, IsPlaced}
use Rattle.lrat_check.proofs.Slots.{get_far, placed_at, by_number, some_placed, if_placed}
use Rattle.lrat_check.proofs.FarSlots.{set_store, set-insert, add_store, add-insert, far_same}
use Rattle.lrat_check.proofs.slot_tables.SlotTables.put_far.Goals as goal
use Rattle.lrat_check.proofs.slot_tables.SlotTables.put_far.Goals.{After-slot-old}

pub index-requires : goal.index-requires
index-requires c = omega (arith, (c.requires.store.found c.args.id c.in-Some.place.now (sym c.in-Some.ensures.value)).1)

pub index_mut-requires : goal.index_mut-requires
index_mut-requires c = omega (arith, (c.requires.store.found c.args.id c.in-Some.place.now (sym c.in-Some.ensures.value)).1)

slot : (c : After-slot-old) → c.slot-old.result ≡ slice_index_or c.args.self.now.far.slots.items c.in-Some.place.now None
slot c = c.slot-old.ensures ∙ c.index.ensures ∙ get_or_default c.args.self.now.far.slots.items c.in-Some.place.now c.index.result.now None (c.requires.store.found c.args.id c.in-Some.place.now (sym c.in-Some.ensures.value)).1

pub returns-in-Some-clause-old : goal.returns-in-Some-clause-old
returns-in-Some-clause-old c =
    let k = (goal.at.returns-in-Some-clause-old c).After-slot-old in
    ap (option_map (clause_at c.args.self.now.literals.items)) (slot k) ∙ ap (placed_at c.args.self.now.literals.items c.args.self.now.far.slots.items) c.in-Some.ensures.value
    ∙ sym (get_far (tables_of c.args.self.now) c.args.id c.requires.store c.requires.beyond)

pub returns-in-Some-clause-placed : goal.returns-in-Some-clause-placed
returns-in-Some-clause-placed c =
    let k = (goal.at.returns-in-Some-clause-placed c).After-slot-old in
    subst (λ x. IfSome x (IsPlaced c.args.self.now.literals.items)) (sym (slot k)) (if_placed c.args.self.now.literals.items c.args.self.now.far.slots.items c.requires.store.far_placed c.in-Some.place.now)

pub returns-in-Some-clause-ok : goal.returns-in-Some-clause-ok
returns-in-Some-clause-ok c =
    set-insert (tables_of c.args.self.now) (record { places = c.args.self.now.far.places; numbers = c.args.self.now.far.numbers; slots = Rattle.std.specs.Vec.with_item c.args.self.now.far.slots c.in-Some.place.now c.of.result })
    c.args.id c.requires.beyond c.requires.store c.in-Some.place.now (sym c.in-Some.ensures.value) c.of.result (λ s e. some_placed c.args.self.now.literals.items c.args.slot c.requires.placed s (sym c.of.ensures ∙ e)) refl refl (λ q. refl) c.args.slot c.of.ensures

pub returns-in-Some-clause-store : goal.returns-in-Some-clause-store
returns-in-Some-clause-store c =
    set_store (tables_of c.args.self.now) (record { places = c.args.self.now.far.places; numbers = c.args.self.now.far.numbers; slots = Rattle.std.specs.Vec.with_item c.args.self.now.far.slots c.in-Some.place.now c.of.result })
    c.args.id c.requires.beyond c.requires.store c.in-Some.place.now (sym c.in-Some.ensures.value) c.of.result (λ s e. some_placed c.args.self.now.literals.items c.args.slot c.requires.placed s (sym c.of.ensures ∙ e)) refl refl (λ q. refl) c.args.slot c.of.ensures

pub returns-in_err-add-in-None-clause-store : goal.returns-in_err-add-in-None-clause-store
returns-in_err-add-in-None-clause-store c =
    let kept = c.in_err-add-in-None.ensures.err in
    (far_same (tables_of c.args.self.now) c.add.new.self c.requires.store kept.0 kept.1 kept.2).1

pub returns-in_ok-add-in-None-clause-old : goal.returns-in_ok-add-in-None-clause-old
returns-in_ok-add-in-None-clause-old c =
    ap (placed_at c.args.self.now.literals.items c.args.self.now.far.slots.items) c.in-None.ensures.value
    ∙ sym (get_far (tables_of c.args.self.now) c.args.id c.requires.store c.requires.beyond)

pub returns-in_ok-add-in-None-clause-ok : goal.returns-in_ok-add-in-None-clause-ok
returns-in_ok-add-in-None-clause-ok c =
    add-insert (tables_of c.args.self.now) c.add.new.self c.args.id c.requires.beyond c.requires.store c.args.slot c.requires.placed (sym c.in-None.ensures.value)
    (by_number c.args.id (Some (length c.args.self.now.far.slots.items)) (place_of c.args.self.now.far) (place_of c.add.new.self) c.in_ok-add-in-None.ensures.places) c.in_ok-add-in-None.ensures.numbers c.in_ok-add-in-None.ensures.slots

pub returns-in_ok-add-in-None-clause-store : goal.returns-in_ok-add-in-None-clause-store
returns-in_ok-add-in-None-clause-store c =
    add_store (tables_of c.args.self.now) c.add.new.self c.args.id c.requires.beyond c.requires.store c.args.slot c.requires.placed (sym c.in-None.ensures.value)
    (by_number c.args.id (Some (length c.args.self.now.far.slots.items)) (place_of c.args.self.now.far) (place_of c.add.new.self) c.in_ok-add-in-None.ensures.places) c.in_ok-add-in-None.ensures.numbers c.in_ok-add-in-None.ensures.slots
