use Rattle.std.proofs.Common.{None, arith}
use Rattle.proof_lift.proofs.ImageLemmas.{lemma_changed}
use Rattle.proof_lift.proofs.images.Images.remove.Goals as goal

pub returns-else-number-len-clause-after : goal.returns-else-number-len-clause-after
returns-else-number-len-clause-after c =
    lemma_changed c.args.self.now.formula c.args.self.now.live.items c.args.self.now.lemmas c.remove.new.self c.args.number None (omega (arith, c.if-number-len.false, c.len.ensures, c.args.self.now.live.ok)) c.remove.ensures
