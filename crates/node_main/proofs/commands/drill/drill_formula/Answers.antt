use Rattle.std.proofs.Common.{arith}
use Rattle.node_main.proofs.SplitLemmas.{within_formula}
use Rattle.node_main.proofs.commands.drill.drill_formula.Goals as goal

pub new-requires-clause-inside : goal.new-requires-clause-inside
new-requires-clause-inside c = within_formula c.args.formula.now c.in_ok-tree.tree c.vars.ensures.valid c.in_ok-tree.ensures.within

pub new-requires-clause-narrow : goal.new-requires-clause-narrow
new-requires-clause-narrow c = λ above. absurd (omega (arith, above, c.requires))
