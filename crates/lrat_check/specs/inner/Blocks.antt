-- Slots in blocks of 1,024 cells. None is a free cell.
use Rattle.std.specs.Prelude.{◌≡◌, ℕ, ◌^◌, ◌+◌, ◌≤◌, List, [], ◌∷◌, ◌++◌, Option, Some, None, All, length, replicate}
use Rattle.lrat_check.specs.declared.slot.Slot.{Slot}

-- the cells of a block without slots
unfoldable pub free_block : List (Option Slot)
free_block = replicate 1024 None

-- the cells of a block from the vector that holds them, which is empty if the block is not allocated
abbrev pub places_of : List (Option Slot) → List (Option Slot)
places_of [] = free_block
places_of (o ∷ cells) = o ∷ cells

-- 1 if the cell has a slot, otherwise 0
abbrev pub one_slot : Option Slot → ℕ
one_slot None = 0
one_slot (Some s) = 1

-- the number of cells that have a slot
abbrev pub standing : List (Option Slot) → ℕ
standing [] = 0
standing (o ∷ slots) = one_slot o + standing slots

-- the cells of all blocks, in order
abbrev pub joined : List (List (Option Slot)) → List (Option Slot)
joined [] = []
joined (slots ∷ blocks) = slots ++ joined blocks

-- the cells are those of one block, and live of them have a slot
pub record IsBlock (live : ℕ) (slots : List (Option Slot)) : Type 0 where
  pub full : length slots ≡ 1024
  pub counted : live ≡ standing slots

-- these are at most 2^48 blocks, of 1,024 cells each
pub record AreBlocks (blocks : List (List (Option Slot))) : Type 0 where
  pub few : length blocks ≤ 2 ^ 48
  pub full : All (λ slots. length slots ≡ 1024) blocks
