use Rattle.std.proofs.Common.{◌≡◌, ◌-◌, ℕ, List, sym, subst}
use Rattle.std.specs.Prelude.{IfOk}
use Rattle.std.proofs.lemmas.Result.{IfOk-weaker}
use Rattle.commands.specs.Known.{HoldsOf}
use Rattle.commands.specs.Lift.{LiftsAt, LiftsBlock, LiftsEach, LiftsTree}
use Rattle.commands.specs.Written.{Keeps}
use Rattle.commands.specs.declared.lift.Lifted.{Lifted}
use Rattle.commands.proofs.LiftLemmas.{of_block_left, of_each_left, of_leaf_left}
use Rattle.commands.proofs.lift.lift_tree.Goals as goal
use Rattle.leaves.specs.BlockLift.{block_of}
use Rattle.leaves.specs.Leaf.{leaf_at}

pub returns-in-Leaf-clause-dropped : goal.returns-in-Leaf-clause-dropped
returns-in-Leaf-clause-dropped g c =
    let log = c.args.files.now.log in
    let old = c.args.disk.now in
    let new = c.lift_leaf.new.disk in
    let s = c.args.split in
    let leaf = c.in-Leaf.leaf in
    let Stays : List ℕ → Type 0 = Keeps g.D.Drafts.kept old new log.binary log.path.now in
    let known = g.D.Disk.holds old c.args.files.now.proof.now in
    IfOk-weaker c.lift_leaf.result (λ r. HoldsOf known (λ proof. LiftsAt Stays (new ≡ old) s.formula (leaf_at s.tree leaf) leaf proof r)) (λ r. r.status ≡ 1 → new ≡ old)
    (λ r h. of_leaf_left Stays (new ≡ old) s.formula s.tree leaf known r h) c.lift_leaf.ensures.lifts

pub returns-in-All-clause-dropped : goal.returns-in-All-clause-dropped
returns-in-All-clause-dropped g c =
    let log = c.args.files.now.log in
    let old = c.args.disk.now in
    let new = c.lift_all.new.disk in
    let s = c.args.split in
    let Stays : List ℕ → Type 0 = Keeps g.D.Drafts.kept old new log.binary log.path.now in
    let known = g.D.Disk.holds old c.args.files.now.proof.now in
    IfOk-weaker c.lift_all.result (λ r. HoldsOf known (λ text. LiftsEach Stays (new ≡ old) s.formula 0 s.tree text r)) (λ r. r.status ≡ 1 → new ≡ old)
    (λ r h. of_each_left Stays (new ≡ old) s.formula 0 s.tree known r h) c.lift_all.ensures.lifts

pub returns-in-Block-clause-dropped : goal.returns-in-Block-clause-dropped
returns-in-Block-clause-dropped g c =
    let log = c.args.files.now.log in
    let old = c.args.disk.now in
    let new = c.lift_block.new.disk in
    let s = c.args.split in
    let first = c.in-Block.first in
    let cubes = block_of s.tree first c.in-Block.last in
    let Stays : List ℕ → Type 0 = Keeps g.D.Drafts.kept old new log.binary log.path.now in
    let known = g.D.Disk.holds old c.args.files.now.proof.now in
    IfOk-weaker c.lift_block.result (λ r. HoldsOf known (λ text. LiftsBlock Stays (new ≡ old) s.formula (first - 1) cubes text r)) (λ r. r.status ≡ 1 → new ≡ old)
    (λ r h. of_block_left Stays (new ≡ old) s.formula (first - 1) cubes known r h) c.lift_block.ensures.lifts

pub returns-in-All-clause-lifts : goal.returns-in-All-clause-lifts
returns-in-All-clause-lifts g c =
    let log = c.args.files.now.log in
    let old = c.args.disk.now in
    let new = c.lift_all.new.disk in
    let s = c.args.split in
    let Stays : List ℕ → Type 0 = Keeps g.D.Drafts.kept old new log.binary log.path.now in
    let P : Lifted → Type 0 = λ lifted. IfOk c.lift_all.result (λ r. HoldsOf (g.D.Disk.holds old c.args.files.now.proof.now) (λ proof. LiftsTree Stays (new ≡ old) s.formula s.tree lifted proof r)) in
    subst P (sym c.in-All.is) c.lift_all.ensures.lifts
