-- The value of an arena's index.
use Rattle.std.specs.FinMap.{FinMap}
use Rattle.std.specs.Ordering.{nat_cmp}
use Rattle.clause_arena.specs.declared.slot.Slot.{Slot}

-- the value of an index: from the number of each live clause to its slot
abbrev pub Slots : Type 0
Slots = FinMap nat_cmp Slot
