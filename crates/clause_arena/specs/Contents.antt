-- The clauses that slots cut out of the list of all literals.
use Rattle.std.specs.Prelude.{ℕ, List, map, take, drop}
use Rattle.std.specs.FinMap.{from_entries, entries}
use Rattle.dimacs.specs.logic.Literal.{Literal, Clause}
use Rattle.clause_arena.specs.declared.slot.Slot.{Slot}
use Rattle.clause_arena.specs.Slots.{Slots}
use Rattle.clause_arena.specs.Clauses.{Clauses}

-- the literals that a slot cuts out of the list of all literals
abbrev pub clause_at : List Literal → Slot → Clause
clause_at literals s = take s.len (drop s.place literals)

-- the offset of a slot, and its literals
abbrev pub value_at : List Literal → Slot → ℕ × Clause
value_at literals s = (s.place, clause_at literals s)

-- a clause number with the offset and the literals of its slot
abbrev pub entry_at : List Literal → ℕ × Slot → ℕ × (ℕ × Clause)
entry_at literals e = (e.0, value_at literals e.1)

-- the value of an arena, by its literals and its slots: from the number of each clause to its offset and its literals
abbrev pub contents : List Literal → Slots → Clauses
contents literals index = from_entries (map (entry_at literals) (entries index))
