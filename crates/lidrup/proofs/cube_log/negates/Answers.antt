use Rattle.std.proofs.Common.{◌∙◌, sym, ap, subst}
use Rattle.std.specs.Prelude.{Contains}
use Rattle.std.proofs.lemmas.Bool.{both_ways}
use Rattle.std.proofs.lemmas.List.{take_all}
use Rattle.dimacs.specs.logic.Literal.{Clause, has, negation}
use Rattle.dimacs.proofs.Members.{Contains-has, has-Contains}
use Rattle.lidrup.proofs.ClosingLemmas.{negates_more}
use Rattle.lidrup.proofs.cube_log.negates.Goals as goal

pub returns-then-not-has_literal : goal.returns-then-not-has_literal
returns-then-not-has_literal c = λ n.
    let q = c.args.cube.now in
    let l = c.l-item.result in
    let here : Contains c.args.clause.now l = (c.loop-l.l-index, c.loop-l-test.true, sym c.l-item.is) in
    both_ways c.has_literal.result c.if-not-has_literal.true (c.has_literal.ensures ∙ ap (has q) c.negate.ensures ∙ Contains-has q (negation l) (n l here))

pub loop-l-preserved : goal.loop-l-preserved
loop-l-preserved c =
    let q = c.args.cube.now in
    let l = c.l-item.result in
    negates_more q c.args.clause.now c.loop-l.l-index l c.loop-l-test.true c.l-item.is
    (has-Contains q (negation l) (ap (has q) (sym c.negate.ensures) ∙ sym c.has_literal.ensures ∙ c.if-not-has_literal.false)) c.loop-l.invariant

pub returns : goal.returns
returns c = λ l m. c.loop-l.invariant l (subst (λ (C : Clause). Contains C l) (sym (take_all c.loop-l.l-index c.args.clause.now c.loop-l-test.false)) m)
