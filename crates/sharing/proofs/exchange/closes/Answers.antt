use Rattle.std.proofs.Common.{All, subst}
use Rattle.std.specs.List.{Contains}
use Rattle.std.proofs.lemmas.List.{take_all}
use Rattle.std.proofs.lemmas.List.Elements.{All-more}
use Rattle.dimacs.specs.logic.Literal.{Literal, negation}
use Rattle.sharing.proofs.exchange.closes.Goals as goal

pub returns : goal.returns
returns c = subst (All (λ k. Contains c.args.query.now (negation k))) (take_all c.loop-literal.literal-index c.args.clause.now c.loop-literal-test.false) c.loop-literal.invariant

pub loop-literal-preserved : goal.loop-literal-preserved
loop-literal-preserved c =
    let P : Literal → Type 0 = λ k. Contains c.args.query.now (negation k) in
    let item : P c.literal-item.result = subst (Contains c.args.query.now) c.negate.ensures c.if-not-has.ensures in
    All-more P c.args.clause.now c.loop-literal.literal-index c.literal-item.result c.loop-literal-test.true c.loop-literal.invariant
    (subst P c.literal-item.is item)
