use Rattle.std.proofs.Common.{take}
use Rattle.cube_solve.specs.inner.DecisionOrder.{AreInserted}
use Rattle.cube_solve.proofs.decision_order.insert_all.Given as goal

abbrev pub invariant-loop-literal : goal.invariant-loop-literal
invariant-loop-literal l = AreInserted (take l.literal-index l.clause) l.fn.heap l.heap
