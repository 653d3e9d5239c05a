-- The invariant of the walk through a splitting tree: how the path and the cubes read so far belong together.
use Rattle.std.specs.Prelude.{◌≡◌, ◌<◌, Bool, true, false, List, [], ◌∷◌, ◌++◌, length}
use Rattle.dimacs.specs.logic.Literal.{negation, var_of}
use Rattle.icnf.specs.declared.place.Place.{Place}
use Rattle.icnf.specs.declared.walk.Stage.{Stage}
use Rattle.icnf.specs.declared.walk.Stage.TheVariants.{Clauses, Outside, Inside, Complete}
use Rattle.icnf.specs.Leaves.{Cube, IsFree, Leaves}

-- The cubes that were read before a path that goes through one decision, whose other branch begins with the cube other: the leaves of that
-- branch, unless it is still to come (the Bool is true), and then cubes for which later holds.
abbrev pub BeforePlace : Bool → Cube → List Cube → (List Cube → Type 0) → Type 0
BeforePlace true other cubes later = later cubes
BeforePlace false other cubes later = (first rest : List Cube) × (cubes ≡ first ++ rest) × Leaves other first × later rest

-- the cubes are the leaves of the branches to the left of the path, which begins below the cube front
abbrev pub Begun : Cube → List Place → List Cube → Type 0
Begun front [] cubes = cubes ≡ []
Begun front (p ∷ path) cubes = IsFree front (var_of p.literal) × BeforePlace p.is_open (front ++ negation p.literal ∷ []) cubes (Begun (front ++ p.literal ∷ []) path)

-- the invariant, by the position in the text: the cubes are the leaves to the left of the path, within a cube fewer than 65,536; or all
-- leaves of a tree
abbrev pub IsWalked : Stage → List Place → List Cube → Type 0
IsWalked Clauses path cubes = Begun [] path cubes
IsWalked Outside path cubes = Begun [] path cubes
IsWalked Inside path cubes = Begun [] path cubes × (length cubes < 65536)
IsWalked Complete path cubes = Leaves [] cubes
