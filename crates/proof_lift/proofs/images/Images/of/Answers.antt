use Rattle.std.proofs.Common.{◌+◌, ap}
use Rattle.proof_lift.proofs.ImageLemmas.{all_stand}
use Rattle.proof_lift.proofs.images.Images.of.Goals as goal

pub returns-clause-stands : goal.returns-clause-stands
returns-clause-stands c = λ q count.
    all_stand c.args.formula c.in_ok-live.live.items c.in_ok-lemmas.lemmas q c.args.units (c.len.result + c.args.units) c.in_ok-lemmas.ensures c.in_ok-live.ensures (ap (λ n. n + c.args.units) c.len.ensures) count
