use Rattle.std.proofs.Common.{◌≡◌, Bool, false, take}
use Rattle.std.specs.List.{list_any}
use Rattle.dimacs.specs.logic.Literal.{Literal}
use Rattle.cube_split.specs.inner.Marks.{AreMarked}
use Rattle.cube_split.proofs.marks.is_apart.Given as goal

-- no literal so far is marked
abbrev pub invariant-loop-literal : goal.invariant-loop-literal
invariant-loop-literal l = (test : Literal → Bool) → AreMarked l.marks test → list_any test (take l.literal-index l.clause) ≡ false
