-- The table and the B-tree of a slot map.
use Rattle.std.specs.Prelude.{◌≡◌, ℕ, ◌+◌, ◌<◌, List, [], ◌∷◌, ◌++◌, length, Option, Some, None, refl}
use Rattle.std.specs.Coded.{Coded, code_by, coded_ℕ, coded×}
use Rattle.std.specs.FinMap.{from_entries, code}
use Rattle.std.specs.Ordering.{nat_cmp}
use Rattle.std.specs.BTreeMap as tree
use Rattle.clause_arena.specs.declared.slot.Slot.{Slot}
use Rattle.clause_arena.specs.declared.slot_map.SlotMap.{SlotMap}
use Rattle.clause_arena.specs.Slots.{Slots}

-- an injective coding of slots, which decides their equality
abbrev pub slot_code : Coded Slot
slot_code = code_by (ℕ × ℕ) (coded× coded_ℕ coded_ℕ) (λ s. (s.place, s.len)) (λ p. record { place = p.0; len = p.1 }) (λ _. refl)

-- an injective coding of indices, which decides their equality
abbrev pub slots_code : Coded Slots
slots_code = code coded_ℕ slot_code

-- the slots of a table whose first cell has the clause number n
abbrev pub near_entries : ℕ → List (Option Slot) → List (ℕ × Slot)
near_entries n [] = []
near_entries n (None ∷ slots) = near_entries (n + 1) slots
near_entries n (Some s ∷ slots) = (n, s) ∷ near_entries (n + 1) slots

-- the slots of the table and of the B-tree, by clause number
abbrev pub slots_of : SlotMap → Slots
slots_of t = from_entries (near_entries 0 t.near ++ t.far.entries)

-- the invariant of a slot map: no clause number of the table is a key of the B-tree
pub record IsApart (t : SlotMap) : Type 0 where
  pub free : (q : ℕ) → q < length t.near → tree.get nat_cmp t.far q ≡ None
