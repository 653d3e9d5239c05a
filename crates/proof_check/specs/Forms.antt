-- The two forms of a proof, text and binary; the first byte tells which.
use Rattle.std.specs.Prelude.{◌≡◌, ◌||◌, ◌==◌, ℕ, Bool, false, List, [], ◌∷◌}
use Rattle.std.specs.Str.{byte}

-- a byte that begins a step in binary form: `a` or `d`
abbrev pub is_letter : ℕ → Bool
is_letter b = b == byte "a" || b == byte "d"

-- the proof is in binary form; a proof without a byte is a text
abbrev pub is_binary : List ℕ → Bool
is_binary [] = false
is_binary (b ∷ bytes) = is_letter b

-- `HasForm form proof`: the proof has a first byte, and `form` tells whether it is in binary form
abbrev pub HasForm : Bool → List ℕ → Type 0
HasForm form [] = ⊥
HasForm form (b ∷ bytes) = is_letter b ≡ form
