use Rattle.log_join.specs.Written.{leaves_of}
use Rattle.receipts.proofs.LeavesLemmas.{few_leaves, leaves_are, ok_weaker}
use Rattle.receipts.proofs.cover.Cover.missing.Goals as goal

pub returns : goal.returns
returns c = ok_weaker c.missing.result _ _
    (λ places e F cubes texts h. (leaves_of c.args.self.now.coverage.joiner, leaves_are F cubes texts c.args.self.now h, e (few_leaves F cubes texts c.args.self.now h)))
    c.missing.ensures
