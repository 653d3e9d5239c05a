use Rattle.std.proofs.Common.{◌≡◌, ℕ, List, Option}
use Rattle.std.proofs.lemmas.Result.{IfOk-weaker}
use Rattle.commands.specs.Known.{HoldsOf}
use Rattle.commands.specs.LiftDrat.{LiftsDratAt}
use Rattle.commands.specs.Trees.{OfTree}
use Rattle.commands.specs.Written.{Keeps}
use Rattle.commands.proofs.TreeLemmas.{of_refused, of_tree}
use Rattle.commands.proofs.lift_drat.lift_drat_files.Goals as goal
use Rattle.dimacs.specs.logic.Cnf.{Cnf}
use Rattle.icnf.specs.Leaves.{Cube}
use Rattle.leaves.specs.Leaf.{leaf_at}
use Rattle.reports.specs.declared.report.Report.{Report}

pub returns-in-With-clause-lifts : goal.returns-in-With-clause-lifts
returns-in-With-clause-lifts g c =
    let files = c.args.files.now in
    let old = c.args.disk.now in
    let new = c.lift_drat_leaf.new.disk in
    let holds : List ℕ → Option (List ℕ) = g.D.Disk.holds old in
    let s = c.in-With.split in
    let leaf = c.args.leaf in
    let Told : Report → Cnf → List Cube → Type 0 = λ r F tree.
    LiftsDratAt c.args.limits (Keeps g.D.Drafts.kept old new files.log.binary files.log.path.now) (new ≡ old) F (leaf_at tree leaf) leaf r in
    IfOk-weaker c.lift_drat_leaf.result (λ r. Told r s.formula s.tree)
    (λ r. HoldsOf (holds files.input.now) (λ text. HoldsOf (holds files.cubes.now) (λ lines. OfTree c.args.limits text lines (Told r) r)))
    (λ r h. of_tree c.args.limits (Told r) r (holds files.input.now) (holds files.cubes.now) c.in_ok-begun.begun s c.in-With.is h c.in_ok-begun.ensures.begins) c.lift_drat_leaf.ensures.lifts

pub returns-in-Refused-clause-lifts : goal.returns-in-Refused-clause-lifts
returns-in-Refused-clause-lifts g c =
    let files = c.args.files.now in
    let old = c.args.disk.now in
    let holds : List ℕ → Option (List ℕ) = g.D.Disk.holds old in
    let leaf = c.args.leaf in
    let r = c.in-Refused.report in
    let Told : Cnf → List Cube → Type 0 = λ F tree.
    LiftsDratAt c.args.limits (Keeps g.D.Drafts.kept old old files.log.binary files.log.path.now) (old ≡ old) F (leaf_at tree leaf) leaf r in
    of_refused c.args.limits Told r (holds files.input.now) (holds files.cubes.now) c.in_ok-begun.begun c.in-Refused.is c.in_ok-begun.ensures.begins
