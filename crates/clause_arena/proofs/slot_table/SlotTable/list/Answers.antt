use Rattle.std.proofs.Common.{◌∙◌, ◌++◌, ap, arith, map}
use Rattle.std.proofs.lemmas.Result.{on_ok_weaker}
use Rattle.clause_arena.specs.inner.Relocation.{ref_of}
use Rattle.clause_arena.specs.inner.Slots.{near_entries}
use Rattle.clause_arena.proofs.TableLemmas.{listed_rest}
use Rattle.clause_arena.proofs.slot_table.SlotTable.list.Goals as goal

pub returns-clause-listed : goal.returns-clause-listed
returns-clause-listed c = on_ok_weaker c.list.result
    (listed_rest c.self.inside.flat.items c.self.inside.rest _ c.len.result c.args.refs.now.items c.list_cells.new.refs.items c.list.new.refs.items c.self.view_is
    (omega (arith, c.len.ensures, c.self.inside.flat.ok))
    (c.in_ok-list_cells.ensures ∙ ap (λ xs. c.args.refs.now.items ++ map ref_of (near_entries 0 xs)) c.deref.ensures.value))
    c.list.ensures.listed
