use Rattle.cube_solve.specs.inner.DecisionOrder.{HasSameMembers}
use Rattle.cube_solve.proofs.decision_order.bump_all.Given as goal

abbrev pub invariant-loop-var : goal.invariant-loop-var
invariant-loop-var l = HasSameMembers l.fn.heap l.heap
