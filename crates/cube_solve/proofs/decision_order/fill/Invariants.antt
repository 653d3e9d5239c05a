use Rattle.std.proofs.Common.{◌≡◌, ℕ, ◌<◌, true}
use Rattle.decide_heap.specs.Decisions.{is_in}
use Rattle.cube_solve.proofs.decision_order.fill.Given as goal

abbrev pub invariant-loop-number : goal.invariant-loop-number
invariant-loop-number l = record {
  vars : l.heap.vars ≡ l.vars;
  seen : (v : ℕ) → 0 < v → v < l.number → is_in l.heap v ≡ true;
}
