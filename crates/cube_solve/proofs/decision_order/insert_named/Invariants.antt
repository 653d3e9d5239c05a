use Rattle.std.proofs.Common.{◌≡◌, take}
use Rattle.cube_solve.specs.inner.DecisionOrder.{HasVariables}
use Rattle.cube_solve.proofs.decision_order.insert_named.Given as goal

abbrev pub invariant-loop-i : goal.invariant-loop-i
invariant-loop-i l = record {
  vars : l.heap.vars ≡ l.base.vars;
  there : HasVariables (take l.i l.base.clauses) l.heap;
}
