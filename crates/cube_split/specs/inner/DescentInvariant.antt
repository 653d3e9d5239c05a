-- The invariant of a descent through a tree, at a path.
use Rattle.std.specs.Prelude.{◌≡◌, ◌*◌, ◌≤◌, ◌++◌, length, All}
use Rattle.dimacs.specs.logic.Cnf.{Cnf, AreWithin}
use Rattle.dimacs.specs.logic.Literal.{Literal, has}
use Rattle.icnf.specs.Leaves.{Cube}
use Rattle.cube_split.specs.ChoiceWithDefinitions.{holding}
use Rattle.cube_split.specs.Definitions.{IsPairOf, Opening}
use Rattle.cube_split.specs.inner.WalkInvariant.{IsWalkAt, from_start, widened}
use Rattle.cube_split.specs.declared.descent.Descent.{Descent}

-- the trail of a descent has the literals that hold along the path, except those that hold from the start
pub record IsTrailOf (F : Cnf) (opening : Opening) (path trail : Cube) : Type 0 where
  pub holds : (l : Literal) → has (from_start F opening ++ trail) l ≡ has (holding F opening path) l
  pub short : length trail ≤ 3 * length path

-- the invariant of a descent through the tree of this formula and this opening, at a path
pub record IsDescentAt (F : Cnf) (opening : Opening) (path trail : Cube) (s : Descent) : Type 0 where
  pub vars : s.vars ≡ F.vars
  pub pairs : s.pairs.items ≡ opening.pairs
  pub few : (F.vars ≤ 99999999) × (length opening.pairs ≤ 64)
  pub formed : All (IsPairOf F.vars) opening.pairs
  pub within : AreWithin F.vars F.clauses
  pub along : IsTrailOf F opening path trail
  pub stands : IsWalkAt (widened F opening) (from_start F opening) trail s.walk
