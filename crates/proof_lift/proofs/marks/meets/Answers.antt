use Rattle.std.proofs.Common.{◌≡◌, ◌∙◌, ap, sym, true, false}
use Rattle.dimacs.specs.logic.Literal.{negation}
use Rattle.proof_lift.specs.inner.Tables.{marked}
use Rattle.proof_lift.proofs.MarkLemmas.{met_on, met_here}
use Rattle.proof_lift.proofs.marks.meets.Goals as goal

pub returns-then-is_marked : goal.returns-then-is_marked
returns-then-is_marked c = λ C is.
    let t : marked c.args.marks.now c.args.stamp (negation c.x-item.result) ≡ true = sym (ap (marked c.args.marks.now c.args.stamp) c.negate.ensures) ∙ sym c.is_marked.ensures ∙ c.if-is_marked.true in
    sym (c.loop-x.invariant C is ∙ met_here c.args.marks.now c.args.stamp c.args.cube.now c.loop-x.x-index c.x-item.result C c.loop-x-test.true c.x-item.is t is)

pub loop-x-preserved : goal.loop-x-preserved
loop-x-preserved c = λ C is.
    let f : marked c.args.marks.now c.args.stamp (negation c.x-item.result) ≡ false = sym (ap (marked c.args.marks.now c.args.stamp) c.negate.ensures) ∙ sym c.is_marked.ensures ∙ c.if-is_marked.false in
    c.loop-x.invariant C is ∙ met_on c.args.marks.now c.args.stamp c.args.cube.now c.loop-x.x-index c.x-item.result C c.loop-x-test.true c.x-item.is f is
