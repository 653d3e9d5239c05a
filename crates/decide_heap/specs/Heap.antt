-- Which variables are in the heap. A variable is its row in the tables here: its number less 1.
use Rattle.std.specs.Prelude.{ℕ, Bool, List, map, nat_lt}

-- which variables are in the heap: those whose index in it is below len
abbrev pub members_of : List ℕ → ℕ → List Bool
members_of places len = map (λ p. nat_lt p len) places
