-- Cubes within the limits, and what may follow a path.
use Rattle.std.specs.Prelude.{ℕ, ◌<◌, ◌≤◌, [], ◌∷◌, ◌++◌, length}
use Rattle.dimacs.specs.logic.Literal.{IsWithin, var_of}
use Rattle.icnf.specs.Leaves.{Cube, IsFree}

-- greatest variable, path, cube: the cube may follow the path. Its variables are at most the greatest, none comes twice or is in the path,
-- and the path and the cube have at most 64 literals together
abbrev pub IsRest : ℕ → Cube → Cube → Type 0
IsRest greatest path [] = length path ≤ 64
IsRest greatest path (x ∷ q) = IsWithin greatest x × IsFree path (var_of x) × (length path < 64) × IsRest greatest (path ++ x ∷ []) q

-- greatest variable, cube: the cube has variables up to the greatest, none twice, and at most 64 literals
abbrev pub IsCube : ℕ → Cube → Type 0
IsCube greatest q = IsRest greatest [] q
