-- Words of a line.
use Rattle.std.specs.Prelude.{◌≡◌, ◌==◌, ℕ, false, List, All}

-- the bytes have no space
abbrev pub IsWord : List ℕ → Type 0
IsWord bytes = All (λ b. (b == 32) ≡ false) bytes
