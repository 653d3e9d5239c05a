use Rattle.std.proofs.Common.{ℕ, ◌<◌, [], get_or}
use Rattle.dimacs.specs.logic.Literal.{Literal, var_of}
use Rattle.cube_solve.specs.inner.UnitClauses.{IsUnitOf, IsNoted}
use Rattle.cube_solve.proofs.unit_clauses.UnitClauses.new.Given as goal

-- those of the clauses so far are noted
abbrev pub invariant-loop-i : goal.invariant-loop-i
invariant-loop-i l = (k : ℕ) (x : Literal) → k < l.i → IsUnitOf (get_or l.base.clauses k []) x → IsNoted l.units.numbers.items (var_of x)
