use Rattle.std.proofs.Common.{Some, arith}
use Rattle.std.proofs.lemmas.Result.{on_ok_weaker}
use Rattle.proof_lift.specs.View.{image_of_lemma}
use Rattle.proof_lift.proofs.ImageLemmas.{maps_changed}
use Rattle.proof_lift.proofs.lemma_images.LemmaImages.put.Goals as goal

pub returns : goal.returns
returns c =
    on_ok_weaker c.insert_in_map.result
    (λ changes. maps_changed c.args.self.now.maps.items c.index_mut.result.now c.insert_in_map.new.map c.map_index-place.result c.args.number (Some (image_of_lemma c.args.own)) c.map_index-place.ensures (omega (arith, c.if-place-len.false, c.len.ensures))
    c.index_mut.ensures.value changes)
    c.insert_in_map.ensures
