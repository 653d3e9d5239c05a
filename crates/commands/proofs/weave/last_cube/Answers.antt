use Rattle.std.proofs.Common.{◌∙◌}
use Rattle.commands.proofs.WeaveLemmas.{single_cube}
use Rattle.commands.proofs.weave.last_cube.Goals as goal

pub returns : goal.returns
returns c = λ is. c.in_ok-cube.ensures.items ∙ c.cube.ensures.cube ∙ single_cube c.args.tree.now c.last-last.result is
