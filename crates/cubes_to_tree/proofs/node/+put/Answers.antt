use Rattle.std.proofs.Common.{refl, sym, ◌∙◌, subst}
use Rattle.std.proofs.lemmas.Result.{IfOk-weaker}
use Rattle.cubes_to_tree.specs.declared.node.Node.{Node}
use Rattle.cubes_to_tree.specs.declared.node.Node.TheViews.{Fork}
use Rattle.cubes_to_tree.specs.inner.Nodes.{IsForkOf, PutOutcome}
use Rattle.cubes_to_tree.proofs.NodeLemmas.{at_given, ends_above, goes_apart, nothing_left, put_left_of, put_right_of}
use Rattle.cubes_to_tree.proofs.node.+put.Goals as goal

pub returns-in-Given : goal.returns-in-Given
returns-in-Given t c = rw c.in-Given.is (at_given c.args.cube.now c.args.node.now)

pub returns-in_default : goal.returns-in_default
returns-in_default t c =
    let was : IsForkOf c.in-Fork.var c.in-Fork.left.value c.in-Fork.right.value c.args.node.now =
    subst (IsForkOf c.in-Fork.var c.in-Fork.left.value c.in-Fork.right.value) (sym c.in-Fork.is) (record { given = refl; has = λ greatest path h. h; makes = λ greatest path h. h }) in
    ends_above c.args.cube.now c.args.node.now c.args.node.now c.in-Fork.var c.in-Fork.left.value c.in-Fork.right.value was (nothing_left c.args.cube.now c.in_default.ensures.cases)

pub returns-then-found-wanted : goal.returns-then-found-wanted
returns-then-found-wanted t c =
    let was : IsForkOf c.in-Fork.var c.in-Fork.left.value c.in-Fork.right.value c.args.node.now =
    subst (IsForkOf c.in-Fork.var c.in-Fork.left.value c.in-Fork.right.value) (sym c.in-Fork.is) (record { given = refl; has = λ greatest path h. h; makes = λ greatest path h. h }) in
    goes_apart c.args.cube.now c.in-Some.rest.now c.in-Some.first.now c.args.node.now c.args.node.now c.in-Fork.var c.in-Fork.left.value c.in-Fork.right.value was c.in-Some.ensures.cases.0
    (λ e. c.if-found-wanted.true (c.number-found.ensures.value ∙ c.var.ensures ∙ e ∙ sym c.number-wanted.ensures.value))

pub returns-then-is_negative : goal.returns-then-is_negative
returns-then-is_negative t c =
    let was : IsForkOf c.in-Fork.var c.in-Fork.left.value c.in-Fork.right.value c.args.node.now =
    subst (IsForkOf c.in-Fork.var c.in-Fork.left.value c.in-Fork.right.value) (sym c.in-Fork.is) (record { given = refl; has = λ greatest path h. h; makes = λ greatest path h. h }) in
    let new : Node = Fork c.in-Fork.var c.in-Fork.left (record c.in-Fork.right { value = c.put.new.node }) in
    let is : IsForkOf c.in-Fork.var c.in-Fork.left.value c.put.new.node new = record { given = refl; has = λ greatest path h. h; makes = λ greatest path h. h } in
    IfOk-weaker c.put.result _ _
    (λ b h. put_right_of c.in-Fork.var c.in-Fork.left.value c.in-Fork.right.value c.args.node.now new c.args.cube.now c.in-Some.rest.now c.in-Some.first.now c.in-Some.ensures.cases.0
    (sym c.var.ensures ∙ sym c.number-found.ensures.value ∙ c.if-found-wanted.false ∙ c.number-wanted.ensures.value)
    (sym c.is_negative.ensures ∙ c.if-is_negative.true) was c.put.new.node b is
    (subst (λ (n : Node). PutOutcome c.in-Some.rest.now n b c.put.new.node) c.deref_mut.ensures.value h))
    c.put.ensures

pub returns-else-is_negative : goal.returns-else-is_negative
returns-else-is_negative t c =
    let was : IsForkOf c.in-Fork.var c.in-Fork.left.value c.in-Fork.right.value c.args.node.now =
    subst (IsForkOf c.in-Fork.var c.in-Fork.left.value c.in-Fork.right.value) (sym c.in-Fork.is) (record { given = refl; has = λ greatest path h. h; makes = λ greatest path h. h }) in
    let new : Node = Fork c.in-Fork.var (record c.in-Fork.left { value = c.put-else-is_negative.new.node }) c.in-Fork.right in
    let is : IsForkOf c.in-Fork.var c.put-else-is_negative.new.node c.in-Fork.right.value new = record { given = refl; has = λ greatest path h. h; makes = λ greatest path h. h } in
    IfOk-weaker c.put-else-is_negative.result _ _
    (λ b h. put_left_of c.in-Fork.var c.in-Fork.left.value c.in-Fork.right.value c.args.node.now new c.args.cube.now c.in-Some.rest.now c.in-Some.first.now c.in-Some.ensures.cases.0
    (sym c.var.ensures ∙ sym c.number-found.ensures.value ∙ c.if-found-wanted.false ∙ c.number-wanted.ensures.value)
    (sym c.is_negative.ensures ∙ c.if-is_negative.false) was c.put-else-is_negative.new.node b is
    (subst (λ (n : Node). PutOutcome c.in-Some.rest.now n b c.put-else-is_negative.new.node) c.deref_mut-else-is_negative.ensures.value h))
    c.put-else-is_negative.ensures
