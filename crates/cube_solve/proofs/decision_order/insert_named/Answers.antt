use Rattle.std.proofs.Common.{List, subst, ◌∙◌, arith}
use Rattle.std.proofs.lemmas.List.{take_all}
use Rattle.dimacs.specs.logic.Literal.{Clause}
use Rattle.cube_solve.specs.inner.DecisionOrder.{HasVariables}
use Rattle.cube_solve.proofs.DecisionOrderLemmas.{named_more}
use Rattle.cube_solve.proofs.decision_order.insert_named.Goals as goal

pub loop-i-preserved : goal.loop-i-preserved
loop-i-preserved c =
    let i = c.loop-i.invariant in
    record {
      vars = c.insert_all.ensures.vars ∙ i.vars;
      there = named_more c.args.base.now.clauses c.loop-i.i c.clause.result.now c.loop-i.heap c.insert_all.new.heap (let t = c.loop-i-test.true in let n = c.len-i-end.ensures in omega arith) c.clause.ensures.clause c.insert_all.ensures i.there;
    }

pub returns-clause-named : goal.returns-clause-named
returns-clause-named c =
    subst (λ (F : List Clause). HasVariables F c.loop-i.heap) (take_all c.loop-i.i c.args.base.now.clauses (let t = c.loop-i-test.false in let n = c.len-i-end.ensures in omega arith)) c.loop-i.invariant.there
