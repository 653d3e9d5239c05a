-- The state of a builder of formulas.
use Rattle.std.specs.Prelude.{ℕ, List}
use Rattle.dimacs.specs.logic.Literal.{Clause}

-- the clauses that have ended, the literals of the open one, and the number of literals in all clauses, also the open one
pub record BuilderState : Type 0 where
  pub done : List Clause
  pub open_clause : Clause
  pub total : ℕ
