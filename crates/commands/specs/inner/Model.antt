-- The state of a test of an answer that comes in pieces.
use Rattle.std.specs.Prelude.{◌≡◌, ℕ, List}
use Rattle.answers.specs.Pieces.{HasRead}
use Rattle.answers.specs.Reports.{Checking}
use Rattle.dimacs.specs.logic.Cnf.{Cnf}

-- the test has read these bytes of an answer to the formula
pub record IsTesting (F : Cnf) (bytes : List ℕ) (c : Checking) : Type 0 where
  pub formula : c.formula ≡ F
  pub read : HasRead c.progress bytes
