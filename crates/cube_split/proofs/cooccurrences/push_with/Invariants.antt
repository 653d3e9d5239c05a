use Rattle.std.proofs.Common.{◌≡◌, ◌++◌, Bool, drop}
use Rattle.dimacs.specs.logic.Literal.{Literal}
use Rattle.cube_split.specs.inner.Marks.{AreMarked}
use Rattle.cube_split.specs.inner.Ranks.{keys_with}
use Rattle.cube_split.proofs.cooccurrences.push_with.Given as goal

-- the keys so far, and those with the literals that are left
abbrev pub invariant-loop-other : goal.invariant-loop-other
invariant-loop-other l = (test : Literal → Bool) → AreMarked l.marks test → l.keys.items ++ keys_with test l.literal (drop l.other-index l.others) ≡ l.fn.keys.items ++ keys_with test l.literal l.others
