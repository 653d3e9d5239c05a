use Rattle.std.proofs.Common.{◌≡◌, ◌<◌, ◌++◌, ◌∷◌, [], ◌+◌, List, ap, arith, length, sym, ◌∙◌, subst, take}
use Rattle.std.proofs.lemmas.List.{length-take-le, take_all, take_more}
use Rattle.icnf.specs.Leaves.{Cube}
use Rattle.commands.specs.inner.Weave.{HasTold}
use Rattle.commands.proofs.WeaveLemmas.{told_more, told_none}
use Rattle.commands.proofs.weave.put_leaves.Goals as goal

pub loop-place-init : goal.loop-place-init
loop-place-init g c = told_none c.args.weaver.now c.args.out.now.items

pub loop-place-preserved : goal.loop-place-preserved
loop-place-preserved g c =
    let tree = c.args.tree.now in
    let place = c.loop-place.place in
    let w = c.args.weaver.now in
    let before = c.args.out.now.items in
    let inside : place < length tree = omega arith in
    let all : length (take place tree) ≡ place = length-take-le place tree (omega arith) in
    let q : Cube = c.cube.result.now in
    let one : take (place + 1) tree ≡ take place tree ++ q ∷ [] = take_more tree place [] inside ∙ ap (λ (p : Cube). take place tree ++ p ∷ []) (sym c.cube.ensures.cube) in
    let more = told_more w (take place tree) q before c.loop-place.out.items c.put_leaf.new.out.items c.loop-place.status place c.closes-is_closed.result (sym all) c.in_ok-put_leaf.ensures
    c.closes-is_closed.ensures c.loop-place.invariant in
    rw (c.status_after-status.ensures, one) more

pub returns : goal.returns
returns g c =
    subst (λ (qs : List Cube). HasTold c.args.weaver.now qs c.args.out.now.items c.loop-place.out.items c.loop-place.status)
    (take_all c.loop-place.place c.args.tree.now (omega arith)) c.loop-place.invariant
