use Rattle.std.proofs.Common.{◌≡◌, ◌++◌, Bool, drop}
use Rattle.dimacs.specs.logic.Literal.{Literal}
use Rattle.cube_split.specs.inner.Marks.{AreMarked}
use Rattle.cube_split.specs.inner.Ranks.{keys_among}
use Rattle.cube_split.proofs.cooccurrences.push_among.Given as goal

-- the keys so far, and those among the literals that are left
abbrev pub invariant-loop-i : goal.invariant-loop-i
invariant-loop-i l = (test : Literal → Bool) → AreMarked l.marks test → l.keys.items ++ keys_among test (drop l.i l.literals) ≡ l.fn.keys.items ++ keys_among test l.literals
