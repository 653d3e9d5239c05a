use Rattle.watches.proofs.TrailLemmas.{distinct_nil}
use Rattle.crate_tests.proofs.cube_solve_searches.solve_alone.Goals as goal

pub solve-requires-clause-distinct : goal.solve-requires-clause-distinct
solve-requires-clause-distinct c = distinct_nil
