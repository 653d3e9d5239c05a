-- Relocation: the live clauses copied one after the other, and the moves that are reported.
use Rattle.std.specs.Prelude.{ℕ, ◌+◌, List, [], ◌∷◌, ◌++◌, map, nat_eq, if◌then◌else◌}
use Rattle.std.specs.FinMap.{entries, insert}
use Rattle.dimacs.specs.logic.Literal.{Literal}
use Rattle.clause_arena.specs.declared.reference.Ref.{Ref}
use Rattle.clause_arena.specs.declared.slot.Slot.{Slot}
use Rattle.clause_arena.specs.Slots.{Slots}
use Rattle.clause_arena.specs.Contents.{clause_at}
use Rattle.clause_arena.specs.inner.Contents.{slot_of}

-- the reference of a clause number and its slot
abbrev pub ref_of : ℕ × Slot → Ref
ref_of e = record { number = e.0; place = e.1.place; len = e.1.len }

-- references to the live clauses, in the order of clause numbers
abbrev pub refs_of : Slots → List Ref
refs_of index = map ref_of (entries index)

-- the literals of these clauses, one clause after the other
abbrev pub relocated : List Literal → List Ref → List Literal
relocated literals [] = []
relocated literals (at ∷ refs) = clause_at literals (slot_of at) ++ relocated literals refs

-- the move of a clause to an offset; none if the offset is its own
abbrev pub move_of : ℕ → Ref → List (Ref × Ref)
move_of place at = if nat_eq place at.place then [] else ((at, record { number = at.number; place = place; len = at.len }) ∷ [])

-- the moves of clauses that are copied one after the other, the first to the offset `place`
abbrev pub moves_from : ℕ → List Ref → List (Ref × Ref)
moves_from place [] = []
moves_from place (at ∷ refs) = move_of place at ++ moves_from (place + at.len) refs

-- the index after the moves
abbrev pub moved_by : Slots → List (Ref × Ref) → Slots
moved_by index [] = index
moved_by index (move ∷ moves) = moved_by (insert index move.1.number (slot_of move.1)) moves
