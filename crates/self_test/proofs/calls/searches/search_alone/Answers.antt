use Rattle.std.proofs.Common.{[], eqb}
use Rattle.std.specs.List.{IsDistinct}
use Rattle.self_test.proofs.calls.searches.search_alone.Goals as goal

none : IsDistinct eqb []
unfolding IsDistinct
none = tt

pub solve-requires-clause-distinct : goal.solve-requires-clause-distinct
solve-requires-clause-distinct c = none
