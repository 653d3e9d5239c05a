use Rattle.std.proofs.Common.{[], arith, ◌<◌, length}
use Rattle.std.proofs.lemmas.Result.{IfOk-weaker}
use Rattle.dimacs.specs.logic.Cnf.{greatest_in}
use Rattle.cubes_to_tree.specs.Completion.{above}
use Rattle.cubes_to_tree.specs.inner.Nodes.{leaves_below}
use Rattle.cubes_to_tree.proofs.TreeLemmas.{leaf_count-is, root_completes}
use Rattle.cubes_to_tree.proofs.completion.completion_report.Goals as goal

pub returns-then-count-gt-LEAVES : goal.returns-then-count-gt-LEAVES
returns-then-count-gt-LEAVES c =
    let root = c.args.root.now in
    let is = leaf_count-is [] root in
    let counted = c.count.ensures in
    let test = c.if-count-gt-LEAVES.true in
    let many : 65536 < length (leaves_below [] root) = omega arith in
    IfOk-weaker c.above_limit.result _ _
    (λ r h given same. above (leaves_below [] root) (root_completes (greatest_in c.args.formula.now.clauses) root c.requires.below c.requires.some given same) many h)
    c.above_limit.ensures
