use Rattle.std.proofs.Common.{[], ◌∷◌, ◌++◌, take, sym, ◌∙◌, ap, subst, arith}
use Rattle.std.proofs.lemmas.List.{take_more, take_all}
use Rattle.dimacs.specs.logic.Literal.{Literal, Clause}
use Rattle.cube_solve.specs.inner.Twins.{AreTwins}
use Rattle.cube_solve.specs.inner.Marks.{AreMarks}
use Rattle.cube_solve.proofs.MarkLemmas.{marks_begin}
use Rattle.cube_solve.proofs.base_loader.keep_first.Goals as goal

pub loop-literal-init : goal.loop-literal-init
loop-literal-init c = record {
  marks = subst (λ (xs : Clause). AreMarks [] xs c.args.stamps.now c.args.stamp) (sym c.requires.empty) (marks_begin c.args.stamps.now c.args.stamp c.requires.some c.requires.fresh);
  bounded = λ k d h. let q = c.requires.fresh k d h in omega arith;
}

pub loop-literal-preserved : goal.loop-literal-preserved
loop-literal-preserved c = record {
  marks = subst (λ xs. AreMarks xs c.push_distinct.new.kept.items c.push_distinct.new.stamps c.args.stamp)
      (sym (take_more c.args.clause.now c.loop-literal.literal-index c.literal-item.result c.loop-literal-test.true ∙ ap (λ (x : Literal). take c.loop-literal.literal-index c.args.clause.now ++ x ∷ []) (sym c.literal-item.is)))
      (c.in_ok-push_distinct.ensures.marks (take c.loop-literal.literal-index c.args.clause.now) c.loop-literal.invariant.marks);
  bounded = c.in_ok-push_distinct.ensures.bounded c.loop-literal.invariant.bounded;
}

pub returns-clause-twins : goal.returns-clause-twins
returns-clause-twins c = subst (λ xs. AreTwins xs c.loop-literal.kept.items) (take_all c.loop-literal.literal-index c.args.clause.now c.loop-literal-test.false) (c.loop-literal.invariant.marks).twins
