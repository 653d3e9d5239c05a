use Rattle.std.proofs.Common.{◌<◌, length, arith, below_more}
use Rattle.connections.proofs.SlotLemmas.{taken_at}
use Rattle.connections.proofs.slots.free_place.Goals as goal

pub loop-place-preserved : goal.loop-place-preserved
loop-place-preserved g c =
    let at : c.loop-place.place < length c.args.slots.now = omega arith in
    below_more _ _ c.loop-place.invariant (taken_at c.args.slots.now c.loop-place.place c.index-slots-place.result at c.index-slots-place.is c.if-is_none.ensures)
