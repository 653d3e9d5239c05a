use Rattle.std.proofs.Common.{◌≡◌, Result, subst}
use Rattle.commands.specs.Written.{Keeps}
use Rattle.commands.proofs.LiftDratLemmas.{found_lifts}
use Rattle.commands.proofs.lift_drat.lift_drat_leaf.Goals as goal
use Rattle.dimacs.specs.logic.Cnf.{Cnf}
use Rattle.leaves.specs.Leaf.{GivesLeafOf, leaf_at}
use Rattle.reports.specs.declared.report.Report.{Report}

pub returns-in_ok-found-in-Ok-clause-lifts : goal.returns-in_ok-found-in-Ok-clause-lifts
returns-in_ok-found-in-Ok-clause-lifts g c =
    let old = c.args.disk.now in
    let new = c.lift_found.new.disk in
    let log = c.args.files.now.log in
    let s = c.args.split in
    let q = leaf_at s.tree c.args.leaf in
    let P : Result Cnf Report → Type 0 = GivesLeafOf c.args.limits s.formula q in
    found_lifts c.args.limits (Keeps g.D.Drafts.kept old new log.binary log.path.now) (new ≡ old) s.formula q c.args.leaf c.in-Ok.formula c.in_ok-found-in-Ok.found c.lift_found.result
    (subst P c.in-Ok.is c.in_ok-given.ensures.gives) c.in_ok-found-in-Ok.ensures.accepted c.lift_found.ensures.lifts
