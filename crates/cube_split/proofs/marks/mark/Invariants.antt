use Rattle.std.proofs.Common.{Bool, ◌||◌, take}
use Rattle.dimacs.specs.logic.Literal.{Literal, has}
use Rattle.cube_split.specs.inner.Marks.{AreMarked}
use Rattle.cube_split.proofs.marks.mark.Given as goal

-- the literals so far are marked
abbrev pub invariant-loop-literal : goal.invariant-loop-literal
invariant-loop-literal l = (test : Literal → Bool) → AreMarked l.fn.marks test → AreMarked l.marks (λ x. test x || has (take l.literal-index l.literals) x)
