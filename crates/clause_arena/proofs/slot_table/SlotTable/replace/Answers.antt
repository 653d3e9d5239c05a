use Rattle.std.proofs.Common.{arith, Some}
use Rattle.clause_arena.proofs.TableLemmas.{set_flat, set_rest}
use Rattle.clause_arena.proofs.slot_table.SlotTable.replace.Goals as goal

pub returns-then-place-len : goal.returns-then-place-len
returns-then-place-len c =
    set_flat c.self.inside.flat.items c.self.inside.rest _ c.args.place (Some c.args.slot) c.self.view_is c.of.result
    (omega (arith, c.if-place-len.true, c.len.ensures, c.self.inside.flat.ok)) c.of.ensures

pub returns-else-place-len : goal.returns-else-place-len
returns-else-place-len c =
    set_rest c.self.inside.flat.items c.self.inside.rest _ c.args.place (Some c.args.slot) c.self.view_is c.len-else-place-len.result c.replace.new.self
    (omega (arith, c.len-else-place-len.ensures, c.self.inside.flat.ok))
    (omega (arith, c.if-place-len.false, c.len.ensures, c.len-else-place-len.ensures)) c.replace.ensures
