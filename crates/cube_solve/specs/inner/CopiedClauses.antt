-- Clauses that are copied from one search to another, by their numbers.
use Rattle.std.specs.Prelude.{ℕ, ◌<◌}
use Rattle.dimacs.specs.logic.ClauseMap.{Live}
use Rattle.dimacs.specs.logic.Literal.{Clause}
use Rattle.cube_solve.specs.inner.Twins.{AreTwins}

-- the clauses `new` are twins of the clauses of `old` with numbers below `top`
pub record AreCopied (top : ℕ) (old new : Live) : Type 0 where
  pub forth : (n : ℕ) (C : Clause) → n < top → old n C → (D : Clause) × new n D × AreTwins C D
  pub back : (n : ℕ) (D : Clause) → new n D → (n < top) × ((C : Clause) × old n C × AreTwins C D)
