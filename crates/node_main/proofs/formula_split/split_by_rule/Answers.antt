use Rattle.std.proofs.Common.{◌≡◌, subst}
use Rattle.dimacs.specs.logic.Cnf.{Cnf}
use Rattle.node_main.specs.FormulaSplit.{depth_for}
use Rattle.node_main.proofs.SplitLemmas.{ruled, tree_narrow}
use Rattle.node_main.proofs.formula_split.split_by_rule.Goals as goal

pub returns-clause-splits : goal.returns-clause-splits
returns-clause-splits c =
    let opened = c.args.opened.now in
    ruled opened.formula c.formula-formula.result.now c.preamble.result.now opened.definitions c.args.depth c.depth_for-levels.result c.in_ok-tree.tree
    c.formula-formula.ensures c.preamble.ensures.units c.preamble.ensures.pairs c.preamble.ensures.defined
    (subst (λ (G : Cnf). c.depth_for-levels.result ≡ depth_for G c.args.depth) c.formula-formula.ensures c.depth_for-levels.ensures.value) c.in_ok-tree.ensures.split

pub returns-clause-narrow : goal.returns-clause-narrow
returns-clause-narrow c =
    let opened = c.args.opened.now in
    tree_narrow opened.formula c.formula-formula.result.now c.preamble.result.now c.args.depth c.depth_for-levels.result c.in_ok-tree.tree
    (subst (λ (G : Cnf). c.depth_for-levels.result ≡ depth_for G c.args.depth) c.formula-formula.ensures c.depth_for-levels.ensures.value) c.in_ok-tree.ensures.split
