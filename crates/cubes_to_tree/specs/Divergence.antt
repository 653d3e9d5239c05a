-- When two cubes can be leaves of one tree.
use Rattle.std.specs.Prelude.{◌≡◌, Bool, true, false, List, [], ◌∷◌, if◌then◌else◌}
use Rattle.std.specs.List.{list_all}
use Rattle.dimacs.specs.logic.Literal.{negation, same}
use Rattle.icnf.specs.Leaves.{Cube}

-- two cubes diverge: after a common prefix one has a literal, and the other its negation
abbrev pub diverge : Cube → Cube → Bool
diverge [] r = false
diverge (x ∷ q) [] = false
diverge (x ∷ q) (y ∷ r) = if same x y then diverge q r else same (negation x) y

-- each two of the cubes diverge
abbrev pub AllDiverge : List Cube → Type 0
AllDiverge [] = Unit {0}
AllDiverge (q ∷ cubes) = (list_all (diverge q) cubes ≡ true) × AllDiverge cubes
