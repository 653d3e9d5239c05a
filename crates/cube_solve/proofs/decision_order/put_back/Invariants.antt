use Rattle.std.proofs.Common.{◌≡◌, ℕ, ◌<◌, ◌≤◌, length, get_or, true}
use Rattle.dimacs.specs.logic.Literal.{var_of}
use Rattle.decide_heap.specs.Decisions.{is_in}
use Rattle.watches.specs.declared.trail.Assigned.{Assigned}
use Rattle.cube_solve.proofs.decision_order.put_back.Given as goal

abbrev pub invariant-putting : goal.invariant-putting
invariant-putting l = record {
  vars : l.heap.vars ≡ l.fn.heap.vars;
  within : l.i ≤ length l.trail.entries;
  kept : (v : ℕ) → is_in l.fn.heap v ≡ true → is_in l.heap v ≡ true;
  back : (k : ℕ) (d : Assigned) → l.i ≤ k → k < length l.trail.entries → is_in l.heap (var_of (get_or l.trail.entries k d).literal) ≡ true;
}

abbrev pub decreases-putting : goal.decreases-putting
decreases-putting l = l.i
