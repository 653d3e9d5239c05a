use Rattle.std.proofs.Common.{◌≡◌}
use Rattle.std.proofs.lemmas.Result.{IfOk-weaker}
use Rattle.commands.specs.Known.{HoldsOf}
use Rattle.commands.specs.Lift.{LiftsEach}
use Rattle.commands.specs.Written.{Keeps}
use Rattle.commands.specs.inner.Lift.{EndsEach, each_moves}
use Rattle.commands.specs.inner.Filter.{IsFiltered}
use Rattle.commands.proofs.LiftLemmas.{each_lifts}
use Rattle.commands.proofs.OfLemmas.{of_map}
use Rattle.commands.proofs.lift.lift_text.Goals as goal

pub returns-clause-lifts : goal.returns-clause-lifts
returns-clause-lifts g c = λ F place cubes start.
    let log = c.args.files.now.log in
    let kept = g.D.Drafts.kept in
    let old = c.args.disk.now in
    let new = c.lift_proof.new.disk in
    let l = c.args.lift in
    IfOk-weaker c.lift_proof.result
    (λ r. HoldsOf (g.D.Disk.holds old c.args.files.now.proof.now) (λ text. IsFiltered each_moves EndsEach kept old new log.binary log.path.now l text r))
    (λ r. HoldsOf (g.D.Disk.holds old c.args.files.now.proof.now) (λ text. LiftsEach (Keeps kept old new log.binary log.path.now) (new ≡ old) F place cubes text r))
    (λ r h. of_map (λ text. IsFiltered each_moves EndsEach kept old new log.binary log.path.now l text r)
    (λ text. LiftsEach (Keeps kept old new log.binary log.path.now) (new ≡ old) F place cubes text r) _
    (λ text poured. each_lifts kept old new log.binary log.path.now F place cubes l text r start poured) h) c.lift_proof.ensures.poured
