use Rattle.std.proofs.Common.{◌≡◌}
use Rattle.cube_solve.specs.Session.{IsReady, vars_of}
use Rattle.leaves.specs.inner.BlockSearch.{HasSearchedUpTo}
use Rattle.leaves.proofs.block_search.refute_by.Given as goal

abbrev pub invariant-loop-leaf : goal.invariant-loop-leaf
invariant-loop-leaf g l = record {
  done : HasSearchedUpTo l.split.formula l.split.tree l.first l.leaf l.search l.run;
  ready : IsReady g.P.Propagator.is_ready g.P.Propagator.attached l.run.searches.session;
  vars : vars_of l.run.searches.session ≡ l.split.formula.vars;
}
