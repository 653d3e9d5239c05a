use Rattle.std.proofs.Common.{ℕ, [], ◌∷◌, eqb}
use Rattle.std.specs.List.{IsDistinct}
use Rattle.dimacs.specs.logic.Literal.{var_of}
use Rattle.self_test.proofs.calls.searches.search_under.Goals as goal

one : (v : ℕ) → IsDistinct eqb (v ∷ [])
unfolding IsDistinct
one v = (tt, tt)

pub solve-requires-clause-distinct : goal.solve-requires-clause-distinct
solve-requires-clause-distinct c = one (var_of c.args.literal)
