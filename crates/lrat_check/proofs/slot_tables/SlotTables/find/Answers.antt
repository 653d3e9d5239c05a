use Rattle.std.proofs.Common.{◌≡◌, ◌∙◌, Some, sym, ap, option_map}
use Rattle.std.specs.Option.{option_or}
use Rattle.std.specs.FinMap.{get}
use Rattle.lrat_check.specs.inner.Store.{clause_at, tables_of, live_of}
use Rattle.lrat_check.proofs.Slots.{get-live_of, far_at, placed_at}
use Rattle.lrat_check.proofs.slot_tables.SlotTables.find.Goals as goal
use Rattle.lrat_check.proofs.slot_tables.SlotTables.find.Goals.{After-get}

-- the clause of the slot of the table by number, or else that of a far number
found : (c : After-get) → get (live_of (tables_of c.args.self.now)) c.args.id ≡ option_or (option_map (clause_at c.args.self.now.literals.items) c.get.result) (far_at c.args.self.now.literals.items c.args.self.now.far c.args.id)
found c =
    get-live_of (tables_of c.args.self.now) c.args.id c.requires
    ∙ ap (λ o. option_or (option_map (clause_at c.args.self.now.literals.items) o) (far_at c.args.self.now.literals.items c.args.self.now.far c.args.id)) (sym c.get.ensures)

pub returns-in-Some : goal.returns-in-Some
returns-in-Some c =
    let k = (goal.at.returns-in-Some c).After-get in
    ap Some (c.clause_of.ensures ∙ ap (λ ls. clause_at ls c.in-Some.slot) c.deref.ensures.value)
    ∙ ap (λ o. option_or (option_map (clause_at c.args.self.now.literals.items) o) (far_at c.args.self.now.literals.items c.args.self.now.far c.args.id)) (sym c.in-Some.is) ∙ sym (found k)

pub returns-in-Some-get : goal.returns-in-Some-get
returns-in-Some-get c =
    let k = (goal.at.returns-in-Some-get c).After-get in
    c.clause_in.ensures ∙ ap (λ ls. placed_at ls c.deref-in-Some-get-2.result.now (Some c.in-Some-get.place.now)) c.deref-in-Some-get.ensures.value
    ∙ ap (λ xs. placed_at c.args.self.now.literals.items xs (Some c.in-Some-get.place.now)) c.deref-in-Some-get-2.ensures.value
    ∙ ap (placed_at c.args.self.now.literals.items c.args.self.now.far.slots.items) c.in-Some-get.ensures.value
    ∙ ap (λ o. option_or (option_map (clause_at c.args.self.now.literals.items) o) (far_at c.args.self.now.literals.items c.args.self.now.far c.args.id)) (sym c.in-None.is) ∙ sym (found k)

pub returns-in-None-get : goal.returns-in-None-get
returns-in-None-get c =
    let k = (goal.at.returns-in-None-get c).After-get in
    ap (placed_at c.args.self.now.literals.items c.args.self.now.far.slots.items) c.in-None-get.ensures.value
    ∙ ap (λ o. option_or (option_map (clause_at c.args.self.now.literals.items) o) (far_at c.args.self.now.literals.items c.args.self.now.far c.args.id)) (sym c.in-None.is) ∙ sym (found k)
