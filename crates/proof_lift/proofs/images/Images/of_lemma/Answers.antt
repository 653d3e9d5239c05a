use Rattle.std.proofs.Common.{◌∙◌}
use Rattle.proof_lift.proofs.ImageLemmas.{lemma_behind}
use Rattle.proof_lift.proofs.images.Images.of_lemma.Goals as goal

pub returns : goal.returns
returns c = c.get.ensures ∙ lemma_behind c.args.self.now.formula c.args.self.now.live.items c.args.self.now.lemmas c.args.number c.requires
