use Rattle.std.proofs.Common.{◌∙◌, sym, ap, subst}
use Rattle.std.proofs.lemmas.List.{take_all}
use Rattle.dimacs.specs.logic.Literal.{Clause, has, negation}
use Rattle.dimacs.proofs.Members.{has-Contains}
use Rattle.lidrup.specs.Lidrup.{Negates}
use Rattle.lidrup.proofs.ClosingLemmas.{negates_more}
use Rattle.weaving.proofs.checked_text.is_negated.Goals as goal

pub loop-l-preserved : goal.loop-l-preserved
loop-l-preserved c =
    let q = c.args.cube.now in
    let l = c.l-item.result in
    negates_more q c.args.clause.now c.loop-l.l-index l c.loop-l-test.true c.l-item.is
    (has-Contains q (negation l) (ap (has q) (sym c.negate.ensures) ∙ sym c.has_literal.ensures ∙ c.if-not-has_literal.false)) c.loop-l.invariant

pub returns : goal.returns
returns c = subst (λ (C : Clause). Negates c.args.cube.now C) (take_all c.loop-l.l-index c.args.clause.now c.loop-l-test.false) c.loop-l.invariant
