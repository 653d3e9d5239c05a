use Rattle.std.proofs.Common.{None, arith}
use Rattle.proof_lift.proofs.ImageLemmas.{maps_changed, maps_same}
use Rattle.proof_lift.proofs.lemma_images.LemmaImages.remove.Goals as goal

pub returns-then-place-len : goal.returns-then-place-len
returns-then-place-len c =
    maps_changed c.args.self.now.maps.items c.index_mut.result.now c.remove_from_map.new.map c.map_index-place.result c.args.number None c.map_index-place.ensures (omega (arith, c.if-place-len.true, c.len.ensures)) c.index_mut.ensures.value c.remove_from_map.ensures

pub returns-else-place-len : goal.returns-else-place-len
returns-else-place-len c = maps_same c.args.self.now.maps.items c.map_index-place.result c.args.number c.map_index-place.ensures (omega (arith, c.if-place-len.false, c.len.ensures))
