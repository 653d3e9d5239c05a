use Rattle.std.proofs.Common.{◌∙◌, arith}
use Rattle.proof_lift.proofs.ImageLemmas.{map_here, no_map}
use Rattle.proof_lift.proofs.lemma_images.LemmaImages.get.Goals as goal

pub returns-then-place-len : goal.returns-then-place-len
returns-then-place-len c =
    c.find_in_map.ensures ∙ map_here c.args.self.now.maps.items c.index.result.now c.map_index-place.result c.args.number c.map_index-place.ensures (omega (arith, c.if-place-len.true, c.len.ensures)) c.index.ensures

pub returns-else-place-len : goal.returns-else-place-len
returns-else-place-len c = no_map c.args.self.now.maps.items c.map_index-place.result c.args.number c.map_index-place.ensures (omega (arith, c.if-place-len.false, c.len.ensures))
