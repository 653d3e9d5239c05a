use Rattle.std.proofs.Common.{Bool, cond}
use Rattle.std.specs.List.{sum_by}
use Rattle.cube_solve.specs.inner.DecisionOrder.{KeepsFree}
use Rattle.cube_solve.proofs.decision_order.pop_unassigned.Given as goal

abbrev pub invariant-taking : goal.invariant-taking
invariant-taking l = KeepsFree l.trail l.fn.heap l.heap

abbrev pub decreases-taking : goal.decreases-taking
decreases-taking l = sum_by (λ (b : Bool). cond b 1 0) l.heap.members
