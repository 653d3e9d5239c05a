use Rattle.std.proofs.Common.{◌≡◌, ◌+◌, slice_index, take}
use Rattle.lrat_check.specs.inner.LiteralTable.{held}
use Rattle.dimacs.specs.logic.Literal.{Literal, index_of}
use Rattle.lrat_check.proofs.counts.count_near.Given as goal

abbrev pub invariant-loop-i : goal.invariant-loop-i
invariant-loop-i l = (k : Literal) → slice_index l.counts (index_of k) ≡ slice_index l.initial.counts (index_of k) + held l.literals (take l.i l.near) k
