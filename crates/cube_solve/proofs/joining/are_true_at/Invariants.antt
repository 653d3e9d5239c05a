use Rattle.std.proofs.Common.{◌≡◌, take, true}
use Rattle.std.specs.List.{Contains}
use Rattle.dimacs.specs.logic.Literal.{Literal}
use Rattle.watches.specs.Trails.{up_to}
use Rattle.cube_solve.proofs.joining.are_true_at.Given as goal

abbrev pub invariant-loop-literal : goal.invariant-loop-literal
invariant-loop-literal l = (x : Literal) → Contains (take l.literal-index l.literals) x → up_to l.trail.entries l.level x ≡ true
