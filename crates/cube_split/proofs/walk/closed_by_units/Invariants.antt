use Rattle.std.proofs.Common.{Bool, take}
use Rattle.dimacs.specs.logic.Literal.{Literal}
use Rattle.cube_split.specs.inner.Marks.{AreMarked}
use Rattle.cube_split.specs.inner.WalkInvariant.{IsClosedBy}
use Rattle.cube_split.proofs.walk.closed_by_units.Given as goal

-- the clauses so far have their levels
abbrev pub invariant-loop-i : goal.invariant-loop-i
invariant-loop-i l = (test : Literal → Bool) → AreMarked l.marks test → IsClosedBy test (take l.i l.formula.clauses) l.closed.items
