use Rattle.std.proofs.Common.{List, [], length, arith, ap}
use Rattle.icnf.specs.Leaves.{Cube}
use Rattle.cube_split.proofs.ChosenLemmas.{chosen_all, leaf_alone, tree_inside, tree_leaves}
use Rattle.cube_split.proofs.SplitLemmas.{room_for}
use Rattle.cube_split.proofs.split_tree.tree_with.Goals as goal

pub returns-then-depth-eq0-clause-split : goal.returns-then-depth-eq0-clause-split
returns-then-depth-eq0-clause-split c = rw c.if-depth-eq0.true (leaf_alone _ c.args.formula.now c.args.preamble.now c.leaf.result c.leaf.ensures)

pub append_below-requires-clause-room : goal.append_below-requires-clause-room
append_below-requires-clause-room c = let n = ap (λ (cs : List Cube). length cs) c.new-leaves.ensures in omega (arith, n, room_for c.args.depth c.requires.depth)

pub finish-requires : goal.finish-requires
finish-requires c =
    tree_leaves c.args.formula.now c.args.preamble.now c.args.depth c.append_below.new.leaves
    (chosen_all c.args.formula.now c.args.preamble.now c.args.depth c.new-path.result.items c.new-leaves.result c.append_below.new.leaves c.new-leaves.ensures c.new-path.ensures.items
    (c.in_ok-append_below.ensures.split c.args.formula.now c.args.preamble.now [] (rw c.new-path.ensures.items c.in_ok-walk.ensures)))

pub returns-clause-split : goal.returns-clause-split
returns-clause-split c = rw c.finish.ensures
    (chosen_all c.args.formula.now c.args.preamble.now c.args.depth c.new-path.result.items c.new-leaves.result c.append_below.new.leaves c.new-leaves.ensures c.new-path.ensures.items
    (c.in_ok-append_below.ensures.split c.args.formula.now c.args.preamble.now [] (rw c.new-path.ensures.items c.in_ok-walk.ensures)))

pub returns-clause-within : goal.returns-clause-within
returns-clause-within c = rw c.finish.ensures
    (tree_inside c.args.formula.now c.args.preamble.now c.args.depth c.append_below.new.leaves c.in_ok-walk.ensures.within
    (chosen_all c.args.formula.now c.args.preamble.now c.args.depth c.new-path.result.items c.new-leaves.result c.append_below.new.leaves c.new-leaves.ensures c.new-path.ensures.items
    (c.in_ok-append_below.ensures.split c.args.formula.now c.args.preamble.now [] (rw c.new-path.ensures.items c.in_ok-walk.ensures))))
