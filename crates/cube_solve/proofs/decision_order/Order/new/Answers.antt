use Rattle.std.proofs.Common.{sym, subst}
use Rattle.cube_solve.specs.inner.DecisionOrder.{HasVariables}
use Rattle.cube_solve.proofs.decision_order.Order.new.Goals as goal

pub returns-clause-named : goal.returns-clause-named
returns-clause-named c = subst (HasVariables c.args.base.now.clauses) (sym c.heap-2.view_is) c.insert_first.ensures.named
