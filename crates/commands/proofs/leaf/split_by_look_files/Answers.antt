use Rattle.std.proofs.Common.{rules, ℕ, List, Option}
use Rattle.std.proofs.lemmas.Result.{IfOk-weaker}
use Rattle.commands.specs.Known.{HoldsOf}
use Rattle.commands.specs.Trees.{OfTree}
use Rattle.commands.proofs.TreeLemmas.{of_refused, of_tree}
use Rattle.commands.proofs.leaf.split_by_look_files.Goals as goal
use Rattle.leaves.specs.LookaheadSplit.{PrintsCut}
use Rattle.reports.specs.declared.report.Report.{Report}

pub returns-in-With-clause-report : goal.returns-in-With-clause-report
returns-in-With-clause-report g c =
    let holds : List ℕ → Option (List ℕ) = g.D.Disk.holds c.args.disk.now in
    let s = c.in-With.split in
    IfOk-weaker c.map_err.result (PrintsCut s.formula s.tree c.args.leaf)
    (λ (r : Report). HoldsOf (holds c.args.input.now) (λ text. HoldsOf (holds c.args.cubes.now) (λ lines. OfTree c.args.limits text lines (λ F tree. PrintsCut F tree c.args.leaf r) r)))
    (λ r prints. of_tree c.args.limits (λ F tree. PrintsCut F tree c.args.leaf r) r (holds c.args.input.now) (holds c.args.cubes.now) c.in_ok-begun.begun s c.in-With.is prints c.in_ok-begun.ensures.begins) (search rules)

pub returns-in-Refused-clause-report : goal.returns-in-Refused-clause-report
returns-in-Refused-clause-report g c =
    let holds : List ℕ → Option (List ℕ) = g.D.Disk.holds c.args.disk.now in
    let r = c.in-Refused.report in
    of_refused c.args.limits (λ F tree. PrintsCut F tree c.args.leaf r) r (holds c.args.input.now) (holds c.args.cubes.now) c.in_ok-begun.begun c.in-Refused.is c.in_ok-begun.ensures.begins
