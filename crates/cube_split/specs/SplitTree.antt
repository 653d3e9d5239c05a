-- The tree that a rule makes of a formula.
use Rattle.std.specs.Prelude.{ℕ, zero, suc, List, [], ◌∷◌, ◌++◌, Option, Some, None, map}
use Rattle.dimacs.specs.logic.Base.{pure_literals}
use Rattle.dimacs.specs.logic.Cnf.{Cnf}
use Rattle.dimacs.specs.logic.Literal.{Literal, Pos, Neg}
use Rattle.icnf.specs.Leaves.{Cube}
use Rattle.cube_split.specs.Choice.{Choice}

-- the formula with the unit clause of each of these literals, after its own clauses
abbrev pub with_units : Cnf → List Literal → Cnf
with_units f units = record f { clauses = f.clauses ++ map (λ l. l ∷ []) units }

-- the leaves below a path that a rule splits, at most this many levels deep: the path alone if no level is left or the rule chooses no
-- variable for it, else the leaves below the positive literal of the chosen variable, and then those below the negative one
pub data IsSplitBy (Rule : Cube → Option ℕ → Type 0) : ℕ → Cube → List Cube → Type 0 where
  full : {path : Cube} → IsSplitBy Rule zero path (path ∷ [])
  whole : {levels : ℕ} {path : Cube} → Rule path None → IsSplitBy Rule levels path (path ∷ [])
  split : {levels : ℕ} {path : Cube} {left right : List Cube} (v : ℕ) → Rule path (Some v)
      → IsSplitBy Rule levels (path ++ Pos v ∷ []) left → IsSplitBy Rule levels (path ++ Neg v ∷ []) right
      → IsSplitBy Rule (suc levels) path (left ++ right)

-- a tree's leaves: it is the tree of this depth without definitions, by the split rule with the pure literals as units
abbrev pub IsTreeOf : Cnf → ℕ → List Cube → Type 0
IsTreeOf f depth cubes = IsSplitBy (λ path v. Choice f (pure_literals f ++ path) v) depth [] cubes
