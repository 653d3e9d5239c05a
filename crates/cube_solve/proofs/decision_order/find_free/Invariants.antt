use Rattle.std.proofs.Common.{◌≡◌, ◌<◌, ◌≤◌, false}
use Rattle.dimacs.specs.logic.Literal.{Literal, var_of}
use Rattle.decide_heap.specs.Decisions.{is_in}
use Rattle.cube_solve.specs.inner.Steps.{IsUnassigned}
use Rattle.cube_solve.proofs.decision_order.find_free.Given as goal

abbrev pub invariant-loop-number : goal.invariant-loop-number
invariant-loop-number l = record {
  low : 1 ≤ l.number;
  none : (x : Literal) → IsUnassigned l.trail x → var_of x < l.number → is_in l.heap (var_of x) ≡ false;
}
