use Rattle.std.proofs.Common.{◌≡◌, ℕ, ◌<◌, ◌≤◌, List, [], arith, length, refl, subst, sym, take}
use Rattle.std.proofs.lemmas.List.{drop_all, length-take-le}
use Rattle.icnf.specs.Leaves.{Cube}
use Rattle.leaves.specs.BlockLift.{part_of}
use Rattle.leaves.specs.inner.BlockReport.{HasReportedLeaves}
use Rattle.leaves.proofs.BlockReportLemmas.{reported, telling_more, telling_none, tells_leaf}
use Rattle.leaves.proofs.block_lift.BlockLift.report.Goals as goal

pub loop-place-init : goal.loop-place-init
loop-place-init c =
    let l = c.args.self.now in
    let b = l.block in
    let none : part_of b.tree b.first b.first ≡ [] = drop_all b.first (take b.first b.tree) (omega (arith, length-take-le b.first b.tree (omega arith))) in
    rw (none, c.new-text.ensures.items) (telling_none l.log b.first)

pub loop-place-preserved : goal.loop-place-preserved
loop-place-preserved c =
    let l = c.args.self.now in
    let b = l.block in
    let place = c.loop-place.place in
    let inside : place < length b.tree = omega arith in
    let low : b.first ≤ place = omega arith in
    let closes = c.closes-is_closed.ensures in
    let status = c.status_after-status.ensures in
    rw (c.in_ok-put_leaf.ensures, status) (telling_more l.log b.tree b.first place _ c.cube.result.now c.loop-place.text.items c.loop-place.status c.closes-is_closed.result low inside refl c.cube.ensures.cube
    (tells_leaf l.log _ c.cube.result.now c.closes-is_closed.result c.requires closes.text closes.closes)
    c.loop-place.invariant)

pub returns : goal.returns
returns c =
    let l = c.args.self.now in
    let b = l.block in
    let all : c.loop-place.place ≡ b.end = omega arith in
    let told : HasReportedLeaves l.log b.first (part_of b.tree b.first b.end) c.loop-place.text.items c.loop-place.status =
    subst (λ n. HasReportedLeaves l.log b.first (part_of b.tree b.first n) c.loop-place.text.items c.loop-place.status) all c.loop-place.invariant in
    reported l c.deref.result.now c.loop-place.status c.of.result
    (subst (λ (t : List ℕ). HasReportedLeaves l.log b.first (part_of b.tree b.first b.end) t c.loop-place.status) (sym c.deref.ensures.value) told)
    c.of.ensures.text c.of.ensures.status c.of.ensures.proof
