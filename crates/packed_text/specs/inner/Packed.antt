-- Which bytes are packed ones, and which texts begin a packed text.
use Rattle.std.specs.Prelude.{◌≡◌, ℕ, ◌/◌, ◌%◌, ◌<◌, ◌≤◌, List, length, take, drop}

-- the byte is packed: both its halves are codes of characters
abbrev pub IsPair : ℕ → Type 0
IsPair b = (b / 16 < 14) × (b % 16 < 14)

-- front and text agree in count bytes from the first one on, and also from the second one on; front has at least one byte
abbrev pub IsFront : ℕ → List ℕ → List ℕ → Type 0
IsFront count front text = (m : ℕ) → m ≤ 1 → (m ≤ length front) × (take count (drop m front) ≡ take count (drop m text))
