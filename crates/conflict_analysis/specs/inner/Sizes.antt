-- A bound of the variables of all live clauses.
use Rattle.std.specs.Prelude.{ℕ, ◌<◌, Contains}
use Rattle.dimacs.specs.logic.ClauseMap.{Live}
use Rattle.dimacs.specs.logic.Literal.{Literal, Clause, var_of}

-- the variables of all live clauses are below this number
abbrev pub AreSized : Live → ℕ → Type 0
AreSized live size = (n : ℕ) (C : Clause) → live n C → (k : Literal) → Contains C k → var_of k < size
