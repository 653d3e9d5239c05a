use Rattle.std.proofs.Common.{Some}
use Rattle.proof_lift.proofs.ImageLemmas.{map_changed}
use Rattle.proof_lift.proofs.lemma_images.insert_in_map.Goals as goal

pub returns : goal.returns
returns c = map_changed c.args.map.now c.insert.new.self c.args.number (Some c.args.own) c.in_ok-insert.ensures.updates.0
