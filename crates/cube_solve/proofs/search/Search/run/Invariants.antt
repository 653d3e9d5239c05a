use Rattle.std.proofs.Common.{◌-◌, ◌≤◌}
use Rattle.cube_solve.specs.inner.State.{IsAssuming}
use Rattle.cube_solve.specs.inner.SearchInvariants.{IsSearching}
use Rattle.cube_solve.proofs.search.Search.run.Given as goal

abbrev pub invariant-turns : goal.invariant-turns
invariant-turns g l = record {
  searching : IsSearching g.P.Propagator.is_ready g.P.Propagator.attached l.base l.learnt l.self;
  assuming : IsAssuming l.cube l.self.state.trail.entries l.self.state.assumed;
  within : l.learnt ≤ l.most;
}

abbrev pub decreases-turns : goal.decreases-turns
decreases-turns g l = l.most - l.learnt
