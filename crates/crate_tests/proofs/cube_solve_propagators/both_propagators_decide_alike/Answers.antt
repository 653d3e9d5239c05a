use Rattle.std.specs.List.{IsDistinct}
use Rattle.crate_tests.proofs.cube_solve_propagators.both_propagators_decide_alike.Goals as goal

-- The empty cube has no variable twice.
pub solve_by-requires-clause-distinct : goal.solve_by-requires-clause-distinct
unfolding IsDistinct
solve_by-requires-clause-distinct g c = tt

pub solve_by-requires-in-loop-input-clause-distinct : goal.solve_by-requires-in-loop-input-clause-distinct
unfolding IsDistinct
solve_by-requires-in-loop-input-clause-distinct g c = tt
