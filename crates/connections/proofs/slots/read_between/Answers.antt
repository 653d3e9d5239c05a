use Rattle.std.proofs.Common.{◌<◌, ◌∙◌, length, arith}
use Rattle.connections.proofs.SlotLemmas.{kept_at}
use Rattle.connections.proofs.KnownLemmas.{reads_none, reads_there}
use Rattle.connections.proofs.slots.read_between.Goals as goal

pub returns-in-Some-clause-links : goal.returns-in-Some-clause-links
returns-in-Some-clause-links g c = kept_at c.loop-place.slots _ _ _ c.read_slot.ensures.links ∙ c.loop-place.invariant.0

pub returns-in-Some-clause-bytes : goal.returns-in-Some-clause-bytes
returns-in-Some-clause-bytes g c =
    let at : c.loop-place.place < length c.loop-place.slots = omega arith in
    reads_there g.S.Read.remaining c.args.slots.now c.loop-place.slots c.loop-place.place c.in-Some.count c.read_slot.new.connection c.index-slots-place.result c.read_slot.new.room at c.loop-place.invariant.1 c.in-Some.ensures.bytes

pub loop-place-preserved : goal.loop-place-preserved
loop-place-preserved g c =
    let at : c.loop-place.place < length c.loop-place.slots = omega arith in (
      kept_at c.loop-place.slots _ _ _ c.read_slot.ensures.links ∙ c.loop-place.invariant.0,
      reads_none g.S.Read.remaining c.args.slots.now c.loop-place.slots c.loop-place.place c.read_slot.new.connection c.index-slots-place.result at c.loop-place.invariant.1 c.in_default.ensures.bytes,
    )
