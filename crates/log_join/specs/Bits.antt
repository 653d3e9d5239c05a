-- Bit sets of leaf indices, in words of 64 bits.
use Rattle.std.specs.Prelude.{◌≡◌, ℕ, ◌/◌, ◌%◌, List, slice_index_or}
use Rattle.std.specs.Int.{bit_at}

-- the leaf index p is in the set
unfoldable pub Has : List ℕ → ℕ → Type 0
Has words p = bit_at (slice_index_or words (p / 64) 0) (p % 64) ≡ 1
