-- Characters and their codes, as sums of choices without a branch.
use Rattle.std.specs.Prelude.{ℕ, ◌+◌, ◌-◌, ◌/◌, ◌%◌, ◌==◌, nat_lt, List, [], ◌∷◌, if◌then◌else◌}
use Rattle.std.specs.Char.{is_ascii_digit}

-- the value if both numbers are equal, otherwise 0
abbrev pub value_if : ℕ → ℕ → ℕ → ℕ
value_if one other value = if one == other then value else 0

-- a digit's value, and 15 for every other byte
abbrev pub digit_code : ℕ → ℕ
digit_code b = if is_ascii_digit b then b - 48 else 15

-- what is subtracted from 15 to get the code of a space, a minus, the letter d or an LF; 0 for every other byte
abbrev pub other_code : ℕ → ℕ
other_code b = value_if b 32 5 + value_if b 45 4 + value_if b 100 3 + value_if b 10 2

-- the digit of a code below 10, and 0 for every other code
abbrev pub digit_glyph : ℕ → ℕ
digit_glyph n = if nat_lt n 10 then 48 + n else 0

-- the space, the minus, the letter d or the LF of a code from 10 to 13, and 0 for every other code
abbrev pub other_glyph : ℕ → ℕ
other_glyph n = value_if n 10 32 + value_if n 11 45 + value_if n 12 100 + value_if n 13 10

-- the character of a code below 14
abbrev pub character : ℕ → ℕ
character n = digit_glyph n + other_glyph n

-- the two halves of a byte, the upper one first
abbrev pub halves : ℕ → List ℕ
halves b = b / 16 ∷ b % 16 ∷ []
