use Rattle.std.proofs.Common.{Bool, take}
use Rattle.dimacs.specs.logic.Literal.{Literal}
use Rattle.cube_split.specs.inner.Marks.{AreMarked}
use Rattle.cube_split.specs.inner.Ranks.{AreKeys}
use Rattle.cube_split.proofs.cooccurrences.pair_keys.Given as goal

-- the keys of the clauses so far
abbrev pub invariant-loop-i : goal.invariant-loop-i
invariant-loop-i l = (test : Literal → Bool) → AreMarked l.marks test → AreKeys l.formula.vars test (take l.i l.formula.clauses) l.keys.items
