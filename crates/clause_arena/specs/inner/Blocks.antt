-- Slots in blocks of 64 cells.
use Rattle.std.specs.Prelude.{◌≡◌, ℕ, ◌*◌, ◌/◌, ◌%◌, ◌^◌, ◌≤◌, List, [], Option, None, All, length, map, slice_index_or}
use Rattle.std.specs.List.{range_with_len}
use Rattle.clause_arena.specs.declared.slot.Slot.{Slot}

-- the slot in the cell at index q; none if its block has fewer cells
abbrev pub slot_at : List (List (Option Slot)) → ℕ → Option Slot
slot_at blocks q = slice_index_or (slice_index_or blocks (q / 64) []) (q % 64) None

-- the slots in `count` cells from index q on
abbrev pub slots_from : List (List (Option Slot)) → ℕ → ℕ → List (Option Slot)
slots_from blocks q count = map (slot_at blocks) (range_with_len q count)

-- the invariant of blocks: each of the first `len` cells has a block; there are at most 2^48 blocks, of at most 64 cells each; no cell
-- after the first `len` has a slot
pub record IsBlocks (len : ℕ) (blocks : List (List (Option Slot))) : Type 0 where
  pub covers : len ≤ 64 * length blocks
  pub few : length blocks ≤ 2 ^ 48
  pub short : All (λ cells. length cells ≤ 64) blocks
  pub ends : (q : ℕ) → len ≤ q → slot_at blocks q ≡ None
