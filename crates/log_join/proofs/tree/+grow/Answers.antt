use Rattle.std.proofs.Common.{◌≡◌, ◌+◌, ◌∙◌, List, length, arith, sym, ap}
use Rattle.icnf.specs.Leaves.{Cube}
use Rattle.log_join.proofs.TreeLemmas.{part_inside, at_leaf, at_fork, leaf_made, first_part, second_part, both_length, forms_fork}
use Rattle.log_join.proofs.tree.+grow.Goals as goal

pub cube-cube-requires : goal.cube-cube-requires
cube-cube-requires t c = part_inside c.args.tree.now c.args.next.now c.args.depth c.requires.part

pub overflow_add-next : goal.overflow_add-next
overflow_add-next t c =
    let a = part_inside c.args.tree.now c.args.next.now c.args.depth c.requires.part in
    let v = c.leaves.ensures.value in
    let l = c.leaves.ensures.limit in
    omega arith

pub returns-then-cube-depth-clause-made : goal.returns-then-cube-depth-clause-made
returns-then-cube-depth-clause-made t c = λ h.
    let z = at_leaf c.args.tree.now c.args.next.now c.args.depth h c.cube-cube.result.now (sym c.cube-cube.ensures.cube) c.if-cube-depth.true in
    let y = leaf_made h.path h.here c.cube-cube.result.now c.in_ok-from_slice.field-0.items z.0 z.1 c.in_ok-from_slice.ensures.items in
    record { tree = y.0; leaves = y.1 }

pub returns-then-cube-depth-clause-next : goal.returns-then-cube-depth-clause-next
returns-then-cube-depth-clause-next t c = λ h.
    let z = at_leaf c.args.tree.now c.args.next.now c.args.depth h c.cube-cube.result.now (sym c.cube-cube.ensures.cube) c.if-cube-depth.true in
    ap (λ (cs : List Cube). c.args.next.now + length cs) (sym z.0)

pub overflow_add-depth : goal.overflow_add-depth
overflow_add-depth t c =
    let f = at_fork c.args.tree.now c.args.next.now c.args.depth c.requires.part c.cube-cube.result.now (sym c.cube-cube.ensures.cube) c.if-cube-depth.false in
    let d = f.deep in
    let l = c.cube-cube.ensures.limit in
    omega arith

pub grow-requires : goal.grow-requires
grow-requires t c =
    let f = at_fork c.args.tree.now c.args.next.now c.args.depth c.requires.part c.cube-cube.result.now (sym c.cube-cube.ensures.cube) c.if-cube-depth.false in
    let d = f.deep in
    let l = c.cube-cube.ensures.limit in
    let e = c.decreases in
    (omega arith, first_part c.args.tree.now c.args.next.now c.args.depth c.requires.part c.cube-cube.result.now f)

pub overflow_add-depth-2 : goal.overflow_add-depth-2
overflow_add-depth-2 t c =
    let f = at_fork c.args.tree.now c.args.next.now c.args.depth c.requires.part c.cube-cube.result.now (sym c.cube-cube.ensures.cube) c.if-cube-depth.false in
    let d = f.deep in
    let l = c.cube-cube.ensures.limit in
    omega arith

pub grow-requires-2 : goal.grow-requires-2
grow-requires-2 t c =
    let f = at_fork c.args.tree.now c.args.next.now c.args.depth c.requires.part c.cube-cube.result.now (sym c.cube-cube.ensures.cube) c.if-cube-depth.false in
    let d = f.deep in
    let l = c.cube-cube.ensures.limit in
    let e = c.decreases in
    let h1 = first_part c.args.tree.now c.args.next.now c.args.depth c.requires.part c.cube-cube.result.now f in
    (omega arith, second_part c.args.tree.now c.args.next.now c.args.depth c.requires.part c.cube-cube.result.now f c.grow.new.next (c.in_ok-left.ensures.next h1))

pub offset_bounds-cube-depth : goal.offset_bounds-cube-depth
offset_bounds-cube-depth t c =
    let f = at_fork c.args.tree.now c.args.next.now c.args.depth c.requires.part c.cube-cube.result.now (sym c.cube-cube.ensures.cube) c.if-cube-depth.false in
    let d = f.deep in
    let l = c.cube-cube.ensures.limit in
    omega arith

pub bounds-cube-depth : goal.bounds-cube-depth
bounds-cube-depth t c = (at_fork c.args.tree.now c.args.next.now c.args.depth c.requires.part c.cube-cube.result.now (sym c.cube-cube.ensures.cube) c.if-cube-depth.false).deep

pub returns-clause-made : goal.returns-clause-made
returns-clause-made t c = λ h.
    let f = at_fork c.args.tree.now c.args.next.now c.args.depth h c.cube-cube.result.now (sym c.cube-cube.ensures.cube) c.if-cube-depth.false in
    let h1 = first_part c.args.tree.now c.args.next.now c.args.depth h c.cube-cube.result.now f in
    let h2 = second_part c.args.tree.now c.args.next.now c.args.depth h c.cube-cube.result.now f c.grow.new.next (c.in_ok-left.ensures.next h1) in
    let x : c.index-cube-depth.result ≡ f.fork.x = c.index-cube-depth.is ∙ f.literal c.index-cube-depth.result in
    let z = forms_fork h.path h.here f.fork c.index-cube-depth.result x c.in_ok-left.left c.in_ok-right.right c.in_ok-new.field-0.value c.in_ok-new-2.field-0.value c.in_ok-new.ensures.ok c.in_ok-new-2.ensures.ok
    (c.in_ok-left.ensures.made h1) (c.in_ok-right.ensures.made h2) in
    record { tree = (z.free, z.marked, z.left, z.right); leaves = z.leaves }

pub returns-clause-next : goal.returns-clause-next
returns-clause-next t c = λ h.
    let f = at_fork c.args.tree.now c.args.next.now c.args.depth h c.cube-cube.result.now (sym c.cube-cube.ensures.cube) c.if-cube-depth.false in
    let h1 = first_part c.args.tree.now c.args.next.now c.args.depth h c.cube-cube.result.now f in
    let h2 = second_part c.args.tree.now c.args.next.now c.args.depth h c.cube-cube.result.now f c.grow.new.next (c.in_ok-left.ensures.next h1) in
    both_length c.args.tree.now c.args.next.now c.args.depth h c.cube-cube.result.now f c.grow.new.next c.grow-2.new.next (c.in_ok-left.ensures.next h1) (c.in_ok-right.ensures.next h2)

pub overflow_cast-middle : goal.overflow_cast-middle
overflow_cast-middle t c =
    let f = at_fork c.args.tree.now c.args.next.now c.args.depth c.requires.part c.cube-cube.result.now (sym c.cube-cube.ensures.cube) c.if-cube-depth.false in
    let h1 = first_part c.args.tree.now c.args.next.now c.args.depth c.requires.part c.cube-cube.result.now f in
    let h2 = second_part c.args.tree.now c.args.next.now c.args.depth c.requires.part c.cube-cube.result.now f c.grow.new.next (c.in_ok-left.ensures.next h1) in
    let a = part_inside c.args.tree.now c.grow.new.next (c.args.depth + 1) h2 in
    let v = c.leaves.ensures.value in
    let l = c.leaves.ensures.limit in
    omega arith
