use Rattle.std.proofs.Common.{◌≡◌, ◌+◌, ◌<◌, ◌≤◌, ◌∙◌, ◌++◌, ◌∷◌, [], All, take, sym, ap, subst, arith}
use Rattle.std.proofs.lemmas.List.{take_more, take_all}
use Rattle.std.proofs.lemmas.List.Elements.{All-nil, All-cons, All-append}
use Rattle.dimacs.specs.logic.Literal.{Literal, IsWithin, index_of}
use Rattle.log_join.proofs.IndexLemmas.{known_within}
use Rattle.log_join.proofs.leaf_lookup.are_known.Goals as goal

pub loop-l-preserved : goal.loop-l-preserved
loop-l-preserved c =
    let x : Literal = c.l-item.result in
    let i = c.loop-l.l-index in
    let longer : take (i + 1) c.args.clause.now ≡ take i c.args.clause.now ++ x ∷ [] =
    take_more c.args.clause.now i x c.loop-l-test.true ∙ ap (λ (l : Literal). take i c.args.clause.now ++ l ∷ []) (sym c.l-item.is) in
    let some : 0 < c.row_of.result = (let z = c.if-row_of-eq0.false in omega arith) in
    let k = c.row_of.ensures.known some in
    let one : IsWithin 199999999 x = known_within x
    (subst (λ (l : Literal). 2 ≤ index_of l) c.negate.ensures k.0) (subst (λ (l : Literal). index_of l < 400000000) c.negate.ensures k.1) in
    subst (All (IsWithin 199999999)) (sym longer) (All-append (IsWithin 199999999) (take i c.args.clause.now) (x ∷ []) c.loop-l.invariant (All-cons (IsWithin 199999999) x [] one (All-nil (IsWithin 199999999))))

pub returns-clause-small : goal.returns-clause-small
returns-clause-small c = λ told. subst (All (IsWithin 199999999)) (take_all c.loop-l.l-index c.args.clause.now c.loop-l-test.false) c.loop-l.invariant
