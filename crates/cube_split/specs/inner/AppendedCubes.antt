-- Leaves of a subtree by the split rule, appended to others.
use Rattle.std.specs.Prelude.{◌≡◌, ℕ, List, ◌++◌}
use Rattle.dimacs.specs.logic.Cnf.{Cnf}
use Rattle.icnf.specs.Leaves.{Cube}
use Rattle.cube_split.specs.Definitions.{Opening}
use Rattle.cube_split.specs.ChoiceWithDefinitions.{Chooses}
use Rattle.cube_split.specs.SplitTree.{IsSplitBy}

-- leaves, before and after: those below a path, by the split rule at most this many levels deep, are appended
pub record AppendsChosen (F : Cnf) (opening : Opening) (levels : ℕ) (path : Cube) (before after : List Cube) : Type 0 where
  pub cubes : List Cube
  pub appended : after ≡ before ++ cubes
  pub below : IsSplitBy (Chooses F opening) levels path cubes
