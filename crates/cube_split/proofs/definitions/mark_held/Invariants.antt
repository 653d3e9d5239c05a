use Rattle.std.proofs.Common.{◌≡◌, ◌+◌, ◌++◌, List, take}
use Rattle.dimacs.specs.logic.Literal.{Literal, has}
use Rattle.cube_split.specs.ChoiceWithDefinitions.{held_by}
use Rattle.cube_split.specs.inner.Marks.{AreMarked}
use Rattle.cube_split.proofs.definitions.mark_held.Given as goal

-- what the pairs so far bring is marked
abbrev pub invariant-loop-pair : goal.invariant-loop-pair
invariant-loop-pair l = record {
  variable : l.variable ≡ l.vars + l.pair-index;
  held : (S : List Literal) → AreMarked l.fn.marks (has S) → AreMarked l.marks (has (S ++ held_by S (l.vars + 1) (take l.pair-index l.pairs)));
}
