-- Sets of variables as tables of stamps.
use Rattle.std.specs.Prelude.{ℕ, ◌==◌, Bool, false, List, map, slice_index_or}

-- by variable, whether its stamp is the present one: then it is in the set
abbrev pub stamped : List ℕ → ℕ → List Bool
stamped stamps stamp = map (λ s. s == stamp) stamps

-- whether the variable v is in a set
abbrev pub met : List Bool → ℕ → Bool
met seen v = slice_index_or seen v false
