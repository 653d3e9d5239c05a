-- Groups whose candidates are strictly increasing.
use Rattle.std.specs.Prelude.{ℕ, ◌<◌, List, [], ◌∷◌}
use Rattle.dimacs.specs.logic.Rat.{Group}

-- the first candidate is above n, and each further one above the one before it
abbrev pub IsRising : ℕ → List Group → Type 0
IsRising n [] = Unit {0}
IsRising n (g ∷ groups) = (n < g.0) × IsRising g.0 groups
