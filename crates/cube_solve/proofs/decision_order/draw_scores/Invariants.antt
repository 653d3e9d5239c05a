use Rattle.cube_solve.specs.inner.DecisionOrder.{HasSameMembers}
use Rattle.cube_solve.proofs.decision_order.draw_scores.Given as goal

abbrev pub invariant-loop-number : goal.invariant-loop-number
invariant-loop-number l = HasSameMembers l.fn.heap l.heap
