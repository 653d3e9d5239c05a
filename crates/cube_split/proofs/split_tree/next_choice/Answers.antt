use Rattle.std.proofs.Common.{arith}
use Rattle.cube_split.proofs.DescentLemmas.{some_at}
use Rattle.cube_split.proofs.split_tree.next_choice.Goals as goal

pub returns-clause-some : goal.returns-clause-some
returns-clause-some c = some_at c.args.levels c.args.walk.now c.choice.result (omega (arith, c.if-levels-eq0.false)) c.choice.ensures
