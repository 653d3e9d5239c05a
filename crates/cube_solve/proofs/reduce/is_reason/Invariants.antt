use Rattle.std.proofs.Common.{◌≡◌, take, Some}
use Rattle.std.specs.List.{Contains}
use Rattle.watches.specs.declared.trail.Assigned.{Assigned}
use Rattle.cube_solve.proofs.reduce.is_reason.Given as goal

abbrev pub invariant-loop-literal : goal.invariant-loop-literal
invariant-loop-literal l = (e : Assigned) → Contains l.trail.entries e → Contains (take l.literal-index l.clause) e.literal → ¬ (e.reason ≡ Some l.number)
