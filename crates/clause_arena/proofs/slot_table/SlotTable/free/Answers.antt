use Rattle.std.proofs.Common.{arith, None}
use Rattle.clause_arena.proofs.TableLemmas.{set_flat, set_rest}
use Rattle.clause_arena.proofs.slot_table.SlotTable.free.Goals as goal

pub returns-then-place-len : goal.returns-then-place-len
returns-then-place-len c =
    set_flat c.self.inside.flat.items c.self.inside.rest _ c.args.place None c.self.view_is c.free.result
    (omega (arith, c.if-place-len.true, c.len.ensures, c.self.inside.flat.ok)) c.free.ensures

pub returns-else-place-len : goal.returns-else-place-len
returns-else-place-len c =
    set_rest c.self.inside.flat.items c.self.inside.rest _ c.args.place None c.self.view_is c.len-else-place-len.result c.free-else-place-len.new.self
    (omega (arith, c.len-else-place-len.ensures, c.self.inside.flat.ok))
    (omega (arith, c.if-place-len.false, c.len.ensures, c.len-else-place-len.ensures)) c.free-else-place-len.ensures
