-- The state of the DIMACS parser after the header.
use Rattle.std.specs.Prelude.{ℕ, List}
use Rattle.dimacs.specs.logic.Literal.{Clause}

-- the header's numbers of variables and clauses, the limit on literals, the clauses that have ended, the literals of the open one, and the
-- number of literals that were read
pub record BodyState : Type 0 where
  pub vars : ℕ
  pub count : ℕ
  pub limit : ℕ
  pub done : List Clause
  pub open_clause : Clause
  pub total : ℕ
