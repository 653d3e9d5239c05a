use Rattle.std.proofs.Common.{◌∙◌, sym, ap, subst, option_map, IfSome}
use Rattle.lrat_check.specs.inner.Store.{clause_at, tables_of, live_of, IsPlaced, IsStore}
use Rattle.lrat_check.proofs.Slots.{with_near, get_near, if_placed, near-remove, near_store-remove}
use Rattle.lrat_check.proofs.slot_tables.SlotTables.take_near.Goals as goal

pub returns-clause-old : goal.returns-clause-old
returns-clause-old c =
    ap (option_map (clause_at c.args.self.now.literals.items)) c.get-old.ensures
    ∙ sym (get_near (tables_of c.args.self.now) c.args.place c.requires.store c.requires.here)

pub returns-clause-placed : goal.returns-clause-placed
returns-clause-placed c =
    subst (λ o. IfSome o (IsPlaced c.args.self.now.literals.items)) (sym c.get-old.ensures) (if_placed c.args.self.now.literals.items c.args.self.now.near c.requires.store.near_placed c.args.place)

pub returns-clause-after : goal.returns-clause-after
returns-clause-after c =
    ap (λ xs. live_of (with_near (tables_of c.args.self.now) xs)) c.free.ensures
    ∙ near-remove (tables_of c.args.self.now) c.args.place c.requires.store c.requires.here

pub returns-clause-store : goal.returns-clause-store
returns-clause-store c =
    subst (λ xs. IsStore (with_near (tables_of c.args.self.now) xs)) (sym c.free.ensures)
    (near_store-remove (tables_of c.args.self.now) c.args.place c.requires.store c.requires.here)
