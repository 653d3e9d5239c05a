use Rattle.std.proofs.Common.{Some}
use Rattle.std.proofs.lemmas.Result.{on_ok_weaker}
use Rattle.proof_lift.specs.View.{image_of_lemma}
use Rattle.proof_lift.proofs.ImageLemmas.{lemma_changed}
use Rattle.proof_lift.proofs.images.Images.put.Goals as goal

pub returns-clause-ok : goal.returns-clause-ok
returns-clause-ok c =
    on_ok_weaker c.put.result
    (λ changes. lemma_changed c.args.self.now.formula c.args.self.now.live.items c.args.self.now.lemmas c.put.new.self c.args.number (Some (image_of_lemma c.args.own)) c.requires changes)
    c.put.ensures
