-- Lists of groups, built hint by hint.
use Rattle.std.specs.Prelude.{ℕ, List, [], ◌∷◌, ◌++◌}
use Rattle.dimacs.specs.logic.Rat.{Group}

-- the groups with the hint n appended to the last one; no groups stay none
abbrev pub with_hint : ℕ → List Group → List Group
with_hint n [] = []
with_hint n (g ∷ []) = (g.0, g.1 ++ n ∷ []) ∷ []
with_hint n (g ∷ h ∷ groups) = g ∷ with_hint n (h ∷ groups)
