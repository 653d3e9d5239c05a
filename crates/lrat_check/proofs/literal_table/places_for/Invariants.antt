use Rattle.std.proofs.Common.{take}
use Rattle.lrat_check.specs.inner.LiteralTable.{FitsTable}
use Rattle.lrat_check.proofs.literal_table.places_for.Given as goal

abbrev pub invariant-loop-l : goal.invariant-loop-l
invariant-loop-l l = FitsTable l.places (take l.l-index l.lits)
