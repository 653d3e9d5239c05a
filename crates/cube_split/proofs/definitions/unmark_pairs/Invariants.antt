use Rattle.std.proofs.Common.{Bool, not, ◌&&◌, take}
use Rattle.dimacs.specs.logic.Literal.{Literal, has}
use Rattle.cube_split.specs.inner.Marks.{AreMarked, literals_of}
use Rattle.cube_split.proofs.definitions.unmark_pairs.Given as goal

-- the literals of the pairs so far are marked no more
abbrev pub invariant-loop-pair : goal.invariant-loop-pair
invariant-loop-pair l = (test : Literal → Bool) → AreMarked l.fn.marks test → AreMarked l.marks (λ x. test x && not (has (literals_of (take l.pair-index l.pairs)) x))
