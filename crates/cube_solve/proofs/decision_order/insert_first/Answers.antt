use Rattle.std.proofs.Common.{subst}
use Rattle.cube_solve.specs.inner.DecisionOrder.{AreAllIn}
use Rattle.cube_solve.proofs.DecisionOrderLemmas.{all_named}
use Rattle.cube_solve.proofs.decision_order.insert_first.Goals as goal

pub returns-in-All-clause-named : goal.returns-in-All-clause-named
returns-in-All-clause-named c = all_named c.args.base.now c.fill.new.heap c.vars.ensures.valid (subst (λ n. AreAllIn n c.fill.new.heap) c.vars.ensures.value c.fill.ensures)
