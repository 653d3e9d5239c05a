use Rattle.std.proofs.Common.{◌∙◌, [], ◌∷◌, ◌++◌, take, sym, ap, subst, arith}
use Rattle.std.specs.List.{All}
use Rattle.std.proofs.lemmas.List.{take_all, take_more}
use Rattle.std.proofs.lemmas.List.Elements.{All-append, All-cons, All-nil}
use Rattle.dimacs.specs.logic.Literal.{Literal, IsWithin}
use Rattle.receipts.proofs.coverage_update.is_small.Goals as goal

pub loop-l-preserved : goal.loop-l-preserved
loop-l-preserved c =
    let l : Literal = c.l-item.result in
    let here : IsWithin 2000000 l =
    (let a = c.number.ensures.above in let v = c.number.ensures.value in let n = c.var.ensures in let low = c.if-number-gt-MAX_VAR.false in (omega arith, omega arith)) in
    subst (All (IsWithin 2000000)) (ap (λ (x : Literal). take c.loop-l.l-index c.args.clause.now ++ x ∷ []) c.l-item.is ∙ sym (take_more c.args.clause.now c.loop-l.l-index l c.loop-l-test.true))
    (All-append (IsWithin 2000000) (take c.loop-l.l-index c.args.clause.now) (l ∷ []) c.loop-l.invariant (All-cons (IsWithin 2000000) l [] here (All-nil (IsWithin 2000000))))

pub returns-clause-small : goal.returns-clause-small
returns-clause-small c = λ e. subst (All (IsWithin 2000000)) (take_all c.loop-l.l-index c.args.clause.now c.loop-l-test.false) c.loop-l.invariant
