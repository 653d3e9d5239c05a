-- The variable on which a leaf is cut.
use Rattle.std.specs.Prelude.{ℕ, ◌<◌, ◌≤◌}
use Rattle.dimacs.specs.logic.Cnf.{Cnf, greatest_in}
use Rattle.icnf.specs.Leaves.{Cube, IsFree}

-- no literal of the cube has the variable `v`, and `v` is from 1 to the greatest variable of the clauses
pub record IsFreeVariable (F : Cnf) (q : Cube) (v : ℕ) : Type 0 where
  pub free : IsFree q v
  pub some : 0 < v
  pub most : v ≤ greatest_in F.clauses
