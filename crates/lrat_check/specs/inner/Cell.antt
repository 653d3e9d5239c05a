-- The cells of a table of slots, from their fields: a slot, or none.
use Rattle.std.specs.Prelude.{◌≡◌, ℕ, ◌-◌, ◌^◌, Bool, true, false, Option, Some, None, cond, refl, nat_eq}
use Rattle.std.proofs.Common.{sym}
use Rattle.std.proofs.lemmas.Bool.{eqb-true}
use Rattle.lrat_check.specs.declared.slot.Slot.{Slot}
use Rattle.lrat_check.specs.declared.slot.Cell.TheInside.{Inside}

-- the value of the field place that marks a free cell
abbrev pub free_place : ℕ
free_place = 2 ^ 64 - 1

-- the slot of a cell, from its fields
abbrev pub slot_in : Inside → Option Slot
slot_in c = cond (nat_eq c.place free_place) None (Some (record { place = c.place; len = c.len }))

-- the invariant of a cell's fields: a free cell has the length 0
abbrev pub IsCell : Inside → Type 0
IsCell c = c.place ≡ free_place → c.len ≡ 0

-- the fields of the cell that has this slot, or is free
abbrev pub cell_of : Option Slot → Inside
cell_of None = record { place = free_place; len = 0 }
cell_of (Some s) = record { place = s.place; len = s.len }

-- the fields of a cell are determined by its slot
pub cell_of-slot_in : (c : Inside) → IsCell c → cell_of (slot_in c) ≡ c
cell_of-slot_in c empty = at (nat_eq c.place free_place) refl
  where
    at : (b : Bool) → nat_eq c.place free_place ≡ b → cell_of (cond b None (Some (record { place = c.place; len = c.len }))) ≡ c
    at true e =
        let free : c.place ≡ free_place = eqb-true c.place free_place e in
        λ i. record { place = sym free i; len = sym (empty free) i }
    at false e = refl
