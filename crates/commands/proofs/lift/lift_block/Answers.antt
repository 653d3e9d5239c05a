use Rattle.std.proofs.Common.{◌≡◌, ◌-◌, ℕ, List, Option, refl, subst}
use Rattle.std.specs.Prelude.{IfOk}
use Rattle.std.proofs.lemmas.Result.{IfOk-weaker}
use Rattle.commands.specs.Known.{HoldsOf}
use Rattle.commands.specs.Written.{Keeps}
use Rattle.commands.proofs.LiftLemmas.{text_lifts}
use Rattle.commands.proofs.lift.lift_block.Goals as goal
use Rattle.leaves.specs.BlockLift.{BeginsBlockOf, block_of}
use Rattle.leaves.specs.declared.block_lift.BlockLift.{BlockLift}

pub returns-in-Some-clause-lifts : goal.returns-in-Some-clause-lifts
returns-in-Some-clause-lifts g c =
    let log = c.args.files.now.log in
    let old = c.args.disk.now in
    let new = c.lift_text.new.disk in
    let s = c.args.split in
    let cubes = block_of s.tree c.args.first c.args.last in
    let P : Option BlockLift → Type 0 = BeginsBlockOf s.formula (c.args.first - 1) cubes in
    text_lifts g.D.Disk.holds old (Keeps g.D.Drafts.kept old new log.binary log.path.now) (new ≡ old) c.args.files.now.proof.now
    s.formula (c.args.first - 1) cubes c.in-Some.lift c.lift_text.result (subst P c.in-Some.is c.in_ok-begun.ensures.begins) c.lift_text.ensures.lifts
