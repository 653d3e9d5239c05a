use Rattle.std.proofs.Common.{take}
use Rattle.dimacs.specs.logic.Base.{occurs}
use Rattle.cube_split.specs.inner.Marks.{AreMarked}
use Rattle.cube_split.proofs.pure.mark_occurring.Given as goal

-- the literals of the clauses so far are marked
abbrev pub invariant-loop-i : goal.invariant-loop-i
invariant-loop-i l = AreMarked l.marks (occurs (take l.i l.formula.clauses))
