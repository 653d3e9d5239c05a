use Rattle.std.proofs.Common.{◌≡◌, ℕ, take, All, subst, arith}
use Rattle.std.proofs.lemmas.List.{take_all}
use Rattle.std.proofs.lemmas.List.Elements.{All-more}
use Rattle.dimacs.specs.logic.Literal.{IsWithin}
use Rattle.lrat_forms.proofs.limits.literals_fit.Goals as goal

pub loop-lit-preserved : goal.loop-lit-preserved
loop-lit-preserved c =
    let item : IsWithin 199999999 c.lit-item.result = (omega (arith, c.number.ensures.above, c.number.ensures.value, c.var.ensures), omega (arith, c.if-number-gt-MAX_VAR.false, c.number.ensures.value, c.var.ensures)) in
    All-more (IsWithin 199999999) c.args.lits.now c.loop-lit.lit-index c.lit-item.result c.loop-lit-test.true c.loop-lit.invariant
    (subst (IsWithin 199999999) c.lit-item.is item)

pub returns : goal.returns
returns c = λ told. subst (All (IsWithin 199999999)) (take_all c.loop-lit.lit-index c.args.lits.now c.loop-lit-test.false) c.loop-lit.invariant
