use Rattle.std.proofs.Common.{◌∙◌, ap}
use Rattle.commands.proofs.weave.weaver_of.Goals as goal

pub returns-clause-cube : goal.returns-clause-cube
returns-clause-cube g c = λ whole. ap (λ x. x.items) c.in_ok-weaver.ensures.cube ∙ c.in_ok-cube.ensures (c.args.searched.now.single whole)
