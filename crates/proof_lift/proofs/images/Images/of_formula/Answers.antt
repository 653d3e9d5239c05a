use Rattle.proof_lift.specs.View.{lemmas_of}
use Rattle.std.proofs.Common.{◌<◌, subst}
use Rattle.proof_lift.proofs.ImageLemmas.{formula_stands}
use Rattle.proof_lift.proofs.images.Images.of_formula.Goals as goal

pub returns : goal.returns
returns c =
    formula_stands c.args.self.now.formula c.args.self.now.live.items (lemmas_of c.args.self.now.lemmas) c.args.number c.saturating_sub-place.result c.index.result.now c.clause.result.now c.requires c.index.ensures
    c.if-not-index.false c.saturating_sub-place.ensures (subst (λ n. c.saturating_sub-place.result < n) c.len.ensures c.if-place-len.false) c.clause.ensures.clause
