-- Numbers as bytes, the lowest byte first.
use Rattle.std.specs.Prelude.{ℕ, List}
use Rattle.std.specs.Int.{w32, w64, from_le_bytes, to_le_bytes}

-- the eight bytes of a number below 2 ^ 64
unfoldable pub bytes8 : ℕ → List ℕ
bytes8 n = to_le_bytes w64 n

-- the four bytes of a number below 2 ^ 32
unfoldable pub bytes4 : ℕ → List ℕ
bytes4 n = to_le_bytes w32 n

-- the number of eight bytes
unfoldable pub number8 : List ℕ → ℕ
number8 bytes = from_le_bytes w64 bytes

-- the number of four bytes
unfoldable pub number4 : List ℕ → ℕ
number4 bytes = from_le_bytes w32 bytes
