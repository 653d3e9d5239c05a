-- The split rule with definitions: defined variables are chosen first.
use Rattle.std.specs.Prelude.{◌≡◌, ℕ, ◌+◌, ◌<◌, List, [], ◌∷◌, ◌++◌, Option, Some, slice_get, if◌then◌else◌}
use Rattle.dimacs.specs.logic.Cnf.{Cnf}
use Rattle.dimacs.specs.logic.Literal.{Literal, Pos, has, var_of}
use Rattle.icnf.specs.Leaves.{Cube, IsFree}
use Rattle.cube_split.specs.Choice.{Choice}
use Rattle.cube_split.specs.Definitions.{Opening}
use Rattle.cube_split.specs.SplitTree.{IsSplitBy}
use Rattle.cube_split.specs.declared.pair.Pair.{Pair}

-- the literals of each pair whose defined variable is in S; the pairs define the variables from d on
abbrev pub held_by : List Literal → ℕ → List Pair → List Literal
held_by S d [] = []
held_by S d (p ∷ pairs) = (if has S (Pos d) then p.first ∷ p.second ∷ [] else []) ++ held_by S (d + 1) pairs

-- the literals that hold in a cube: those of the opening's units and of the cube, and of each pair whose defined variable is one of these
abbrev pub holding : Cnf → Opening → Cube → List Literal
holding F opening cube = (opening.units ++ cube) ++ held_by (opening.units ++ cube) (F.vars + 1) opening.pairs

-- the defined variable of pair i, from 0, is undecided: S has no literal of it, nor of the variables of its pair
pub record IsUndecided (F : Cnf) (pairs : List Pair) (S : List Literal) (i : ℕ) : Type 0 where
  pub pair : Pair
  pub there : slice_get pairs i ≡ Some pair
  pub itself : IsFree S (F.vars + 1 + i)
  pub first : IsFree S (var_of pair.first)
  pub second : IsFree S (var_of pair.second)

-- the variable that the split rule chooses if the literals of S hold; None if it chooses none
pub data IsChosen (F : Cnf) (pairs : List Pair) (S : List Literal) (v : Option ℕ) : Type 0 where
  -- the lowest defined variable that is undecided
  defined : (i : ℕ) → IsUndecided F pairs S i → ((j : ℕ) → j < i → ¬ (IsUndecided F pairs S j)) → v ≡ Some (F.vars + 1 + i) → IsChosen F pairs S v
  -- if no defined variable is undecided, as without definitions: the choice of the rule without definitions
  plain : ((j : ℕ) → ¬ (IsUndecided F pairs S j)) → Choice F S v → IsChosen F pairs S v

-- the variable on which a cube is split; None if it is not split
abbrev pub Chooses : Cnf → Opening → Cube → Option ℕ → Type 0
Chooses F opening cube v = IsChosen F opening.pairs (holding F opening cube) v

-- a tree's leaves: it is the tree of this depth of the formula with this opening, by the split rule
abbrev pub IsTreeWith : Cnf → Opening → ℕ → List Cube → Type 0
IsTreeWith F opening depth cubes = IsSplitBy (Chooses F opening) depth [] cubes
