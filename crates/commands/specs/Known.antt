-- The bytes of a source, which are known or not.
use Rattle.std.specs.Prelude.{◌≡◌, ◌++◌, ℕ, List, [], Option, Some, None}

-- P holds of the bytes of a source; if they are not known, of some bytes
abbrev pub HoldsOf : Option (List ℕ) → (List ℕ → Type 0) → Type 0
HoldsOf None P = (bytes : List ℕ) × P bytes
HoldsOf (Some bytes) P = P bytes

-- a source that has these bytes left, if they are known, has this piece next; the piece is empty only at the end of the source
abbrev pub IsNext : Option (List ℕ) → List ℕ → Type 0
IsNext None piece = Unit {0}
IsNext (Some all) piece = (left : List ℕ) × (all ≡ piece ++ left) × (piece ≡ [] → all ≡ [])
