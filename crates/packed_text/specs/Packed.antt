-- The text of packed bytes: two characters in a byte.
use Rattle.std.specs.Prelude.{◌≡◌, ℕ, nat_lt, ◌+◌, ◌<◌, ◌/◌, ◌%◌, ◌==◌, List, [], ◌∷◌, ◌++◌, codes, if◌then◌else◌}

-- the character of a code of four bits: digits 0 to 9, space 10, minus 11, the letter d 12, LF 13; no character for 14 and 15
abbrev pub half_text : ℕ → List ℕ
half_text n =
    if nat_lt n 10 then (48 + n) ∷ []
    else if n == 10 then codes " "
    else if n == 11 then codes "-"
    else if n == 12 then codes "d"
    else if n == 13 then codes "\n"
    else []

-- the text of a packed byte: the character of its upper half, then that of its lower half
abbrev pub byte_text : ℕ → List ℕ
byte_text b = half_text (b / 16) ++ half_text (b % 16)

-- the text begins with a character of lines
abbrev pub BeginsWithCharacter : List ℕ → Type 0
BeginsWithCharacter text = (n : ℕ) × (rest : List ℕ) × (text ≡ half_text n ++ rest) × (n < 14)
