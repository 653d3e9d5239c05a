-- How many leaves of a block the report has, in the loop of `BlockLift::report`.
use Rattle.std.specs.Prelude.{◌≡◌, ℕ, Bool, List, ◌++◌, length, if◌then◌else◌}
use Rattle.dimacs.specs.logic.Cnf.{Cnf}
use Rattle.icnf.specs.Leaves.{Cube}
use Rattle.leaves.specs.BlockLift.{AreTold, are_closed, told_text}
use Rattle.lidrup.specs.CubeLog.{HasLogged}
use Rattle.lidrup.specs.declared.cube_log.CubeLog.{CubeLog}

-- log, index of the first leaf in the tree (from 0), cubes, text, status: the text has the lines of the leaves with these cubes; the status
-- is 20 if all of them are closed, and else 0
pub record HasReportedLeaves (x : CubeLog) (place : ℕ) (cubes : List Cube) (text : List ℕ) (status : ℕ) : Type 0 where
  pub told : List Bool
  pub long : length told ≡ length cubes
  pub are : (F : Cnf) (bytes handed : List ℕ) → HasLogged F bytes handed x → AreTold F bytes (handed ++ x.lines.out.items) 0 cubes told
  pub text_is : text ≡ told_text place told
  pub status_is : status ≡ (if are_closed told then 20 else 0)
