use Rattle.cube_split.proofs.SplitLemmas.{plain_tree, plain_within}
use Rattle.cube_split.proofs.split_tree.tree.Goals as goal

pub returns-clause-split : goal.returns-clause-split
returns-clause-split c = plain_tree _ c.args.formula.now c.in_ok-preamble.preamble c.args.depth c.tree_with.result c.in_ok-preamble.ensures.units c.tree_with.ensures.split

pub returns-clause-within : goal.returns-clause-within
returns-clause-within c =
    plain_within _ c.args.formula.now c.args.depth c.tree_with.result c.vars.ensures.valid.within
    (plain_tree _ c.args.formula.now c.in_ok-preamble.preamble c.args.depth c.tree_with.result c.in_ok-preamble.ensures.units c.tree_with.ensures.split)
