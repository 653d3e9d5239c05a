use Rattle.std.proofs.Common.{ℕ, [], ◌∷◌, eqb}
use Rattle.std.specs.List.{IsDistinct}
use Rattle.dimacs.specs.logic.Literal.{var_of}
use Rattle.crate_tests.proofs.cube_solve_searches.solve_under.Goals as goal

one : (v : ℕ) → IsDistinct eqb (v ∷ [])
unfolding IsDistinct
one v = (tt, tt)

pub solve-requires-clause-distinct : goal.solve-requires-clause-distinct
solve-requires-clause-distinct c = one (var_of c.args.literal)
