use Rattle.std.proofs.Common.{None}
use Rattle.proof_lift.proofs.ImageLemmas.{map_changed}
use Rattle.proof_lift.proofs.lemma_images.remove_from_map.Goals as goal

pub returns : goal.returns
returns c = map_changed c.args.map.now c.remove.new.self c.args.number None c.remove.ensures.updates.0
