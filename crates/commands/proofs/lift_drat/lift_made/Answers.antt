use Rattle.std.proofs.Common.{◌≡◌, Option, subst}
use Rattle.std.proofs.lemmas.Result.{IfOk-weaker}
use Rattle.commands.specs.Lift.{LiftsAt}
use Rattle.commands.specs.Written.{Keeps}
use Rattle.commands.specs.declared.lift.LeafLift.{LeafLift}
use Rattle.commands.specs.inner.Lift.{EndsLeaf, leaf_moves}
use Rattle.commands.specs.inner.Filter.{IsFiltered}
use Rattle.commands.proofs.LiftLemmas.{at_lifts}
use Rattle.commands.proofs.lift_drat.lift_made.Goals as goal
use Rattle.text_or_binary.specs.FormLift.{BeginsFormCube}
use Rattle.text_or_binary.specs.declared.form_lift.FormLift.{FormLift}
use Rattle.leaves.specs.Leaf.{leaf_at}

pub returns-in-Some-clause-lifts : goal.returns-in-Some-clause-lifts
returns-in-Some-clause-lifts g c =
    let log = c.args.files.now.log in
    let kept = g.D.Drafts.kept in
    let old = c.args.disk.now in
    let new = c.lift_packed.new.disk in
    let F = c.args.split.formula in
    let q = leaf_at c.args.split.tree c.args.leaf in
    let l = c.in-Some.lift in
    let proof = c.args.proof.now in
    let P : Option FormLift → Type 0 = BeginsFormCube F q in
    let start = subst P c.in-Some.is c.in_ok-begun.ensures.begins in
    let taker : LeafLift = record { lift = l; leaf = c.args.leaf } in
    IfOk-weaker c.lift_packed.result
    (λ r. IsFiltered leaf_moves EndsLeaf kept old new log.binary log.path.now taker proof r)
    (λ r. LiftsAt (Keeps kept old new log.binary log.path.now) (new ≡ old) F q c.args.leaf proof r)
    (λ r poured. at_lifts kept old new log.binary log.path.now F q l c.args.leaf proof r start poured) c.lift_packed.ensures.poured
