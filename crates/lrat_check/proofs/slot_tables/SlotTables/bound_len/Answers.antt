use Rattle.std.proofs.Common.{arith, ap, length}
use Rattle.lrat_check.specs.inner.Store.{tables_of}
use Rattle.lrat_check.proofs.Slots.{len-live_of}
use Rattle.lrat_check.proofs.slot_tables.SlotTables.bound_len.Goals as goal

pub returns : goal.returns
returns c =
    omega (arith, len-live_of (tables_of c.args.self.now), c.bound_len.ensures, c.whole-far.type_inv.1, ap length c.whole-far.ensures)
