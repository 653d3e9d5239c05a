use Rattle.std.proofs.Common.{take}
use Rattle.elimination.specs.inner.Indexed.{AreRetired}
use Rattle.elimination.proofs.clauses.retire.Given as goal

abbrev pub invariant-loop-i : goal.invariant-loop-i
invariant-loop-i l = AreRetired l.initial.active.items l.active.items (take l.i-index l.list)
