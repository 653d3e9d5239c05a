-- The numbers of faults, by what a file is read as.
use Rattle.std.specs.Prelude.{ℕ, ◌≤◌, ◌≡◌, ◌⊎◌}
use Rattle.explanations.specs.declared.table.Subject.{Subject}
use Rattle.explanations.specs.declared.table.Subject.TheVariants.{Input, Proof, DratProof, Cubes, Answer, Events, Session}

-- a number's property: it is from low to high
abbrev pub IsFromTo : ℕ → ℕ → ℕ → Type 0
IsFromTo low high number = (low ≤ number) × (number ≤ high)

-- a number's property: a file that is read as this can have a fault of this number
abbrev pub HasNumber : Subject → ℕ → Type 0
HasNumber Input number = IsFromTo 1 9 number
HasNumber Proof number = IsFromTo 1 17 number
HasNumber DratProof number = IsFromTo 1 9 number
HasNumber Cubes number = IsFromTo 1 5 number ⊎ IsFromTo 8 13 number
HasNumber Answer number = IsFromTo 1 5 number ⊎ (number ≡ 14)
HasNumber Events number = IsFromTo 1 3 number ⊎ (number ≡ 5) ⊎ IsFromTo 8 9 number
HasNumber Session number = IsFromTo 1 7 number ⊎ IsFromTo 14 15 number ⊎ IsFromTo 18 22 number
