use Rattle.std.proofs.Common.{rules, ◌≡◌, ◌++◌, ◌∷◌, [], ◌∙◌, true, false, sym, ap}
use Rattle.dimacs.specs.logic.Literal.{Clause, has}
use Rattle.cube_split.proofs.DistinctLemmas.{gathered_new, gathered_again, too_long}
use Rattle.cube_split.proofs.cooccurrences.collect_distinct.Goals as goal
use Rattle.cube_split.proofs.cooccurrences.collect_distinct.Goals.{then-not-has_literal+else-len-eq3+in_ok-push, else-not-has_literal}

pub returns-then-len-eq3-clause-short : goal.returns-then-len-eq3-clause-short
returns-then-len-eq3-clause-short c =
    let new : has c.loop-literal.found.items c.literal-item.result ≡ false = ap (λ (D : Clause). has D c.literal-item.result) (sym c.deref.ensures.value) ∙ sym c.has_literal.ensures ∙ c.if-not-has_literal.true in
    too_long c.args.clause.now c.loop-literal.found.items c.loop-literal.literal-index c.literal-item.result c.loop-literal-test.true c.literal-item.is c.loop-literal.invariant.gathered new (search rules)

pub loop-literal-preserved : goal.loop-literal-preserved
loop-literal-preserved c = elim c.if-not-has_literal.branch [
  | then-not-has_literal+else-len-eq3+in_ok-push w ↦
      let new : has c.loop-literal.found.items c.literal-item.result ≡ false = ap (λ (D : Clause). has D c.literal-item.result) (sym c.deref.ensures.value) ∙ sym c.has_literal.ensures ∙ w.if-not-has_literal.true in
      let items : c.if-not-has_literal.found.items ≡ c.loop-literal.found.items ++ c.literal-item.result ∷ [] = search rules in
      record {
        gathered = rw items (gathered_new c.args.clause.now c.loop-literal.found.items c.loop-literal.literal-index c.literal-item.result c.loop-literal-test.true c.literal-item.is c.loop-literal.invariant.gathered new);
        few = search rules;
      }
  | else-not-has_literal w ↦
      let met : has c.loop-literal.found.items c.literal-item.result ≡ true = ap (λ (D : Clause). has D c.literal-item.result) (sym c.deref.ensures.value) ∙ sym c.has_literal.ensures ∙ w.if-not-has_literal.false in
      let items : c.if-not-has_literal.found.items ≡ c.loop-literal.found.items = search rules in
      record {
        gathered = rw items (gathered_again c.args.clause.now c.loop-literal.found.items c.loop-literal.literal-index c.literal-item.result c.loop-literal-test.true c.literal-item.is c.loop-literal.invariant.gathered met);
        few = search rules;
      }
]
