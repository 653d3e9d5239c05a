-- Splitting trees, as the cubes of their leaves.
use Rattle.std.specs.Prelude.{◌≢◌, ℕ, zero, suc, ◌≤◌, List, [], ◌∷◌, ◌++◌, length, All}
use Rattle.dimacs.specs.logic.Literal.{Literal, Pos, Neg, negation, var_of}

-- a cube: the literals of a path, from the root on
abbrev pub Cube : Type 0
Cube = List Literal

-- no literal of the path is of the variable v
abbrev pub IsFree : Cube → ℕ → Type 0
IsFree path v = All (λ l. var_of l ≢ v) path

-- the cubes are the leaves below the path, from left to right: the path itself, or the leaves below a literal and then those below its
-- negation
pub data Leaves : Cube → List Cube → Type 0 where
  leaf : {path : Cube} → Leaves path (path ∷ [])
  fork : {path : Cube} {left right : List Cube} (x : Literal) → IsFree path (var_of x)
      → Leaves (path ++ x ∷ []) left → Leaves (path ++ negation x ∷ []) right → Leaves path (left ++ right)

-- the cubes are those of a tree's leaves, from left to right, within the limits
pub record IsTree (cubes : List Cube) : Type 0 where
  pub leaves : Leaves [] cubes
  pub count : length cubes ≤ 65536
  pub short : All (λ c. length c ≤ 64) cubes

-- the cubes, with cube i (from 0) replaced by its two branches: on the variable v, and on its negation
abbrev pub branched : ℕ → ℕ → List Cube → List Cube
branched i v [] = []
branched zero v (c ∷ cubes) = (c ++ Pos v ∷ []) ∷ (c ++ Neg v ∷ []) ∷ cubes
branched (suc i) v (c ∷ cubes) = c ∷ branched i v cubes
