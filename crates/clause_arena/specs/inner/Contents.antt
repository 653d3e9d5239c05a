-- How the slots of clauses lie within the list of all literals.
use Rattle.std.specs.Prelude.{◌≡◌, ℕ, ◌+◌, ◌<◌, ◌≤◌, List, length, Some}
use Rattle.std.specs.List.{IsDistinct}
use Rattle.std.specs.FinMap.{get}
use Rattle.dimacs.specs.logic.Literal.{Literal, same}
use Rattle.clause_arena.specs.declared.reference.Ref.{Ref}
use Rattle.clause_arena.specs.declared.slot.Slot.{Slot}
use Rattle.clause_arena.specs.Slots.{Slots}
use Rattle.clause_arena.specs.Contents.{clause_at}

-- a slot's property: it lies within the literals
abbrev pub IsPlaced : List Literal → Slot → Type 0
IsPlaced literals s = s.place + s.len ≤ length literals

-- the slot of a reference
abbrev pub slot_of : Ref → Slot
slot_of at = record { place = at.place; len = at.len }

-- the invariant of an arena: each slot lies within the literals, the slots of two numbers do not overlap, and no clause repeats a literal
pub record IsArena (literals : List Literal) (index : Slots) : Type 0 where
  pub placed : (n : ℕ) (s : Slot) → get index n ≡ Some s → IsPlaced literals s
  pub distinct : (n : ℕ) (s : Slot) → get index n ≡ Some s → IsDistinct same (clause_at literals s)
  pub apart : (n m k : ℕ) (s t : Slot) → get index n ≡ Some s → get index m ≡ Some t
      → s.place ≤ k → k < s.place + s.len → t.place ≤ k → k < t.place + t.len → n ≡ m
