use Rattle.std.proofs.Common.{◌≡◌, ◌-◌, length}
use Rattle.watches.specs.Law.{SameUpToOrder}
use Rattle.cube_solve.specs.inner.State.{IsAssuming}
use Rattle.cube_solve.specs.inner.SearchInvariants.{IsSteady}
use Rattle.cube_solve.specs.inner.Steps.{AreHeld}
use Rattle.cube_solve.proofs.state.State.descend.Given as goal

abbrev pub invariant-descending : goal.invariant-descending
invariant-descending g l = record {
  steady : IsSteady g.P.Propagator.is_ready g.P.Propagator.attached l.self;
  assuming : IsAssuming l.cube l.self.trail.entries l.self.assumed;
  clauses : SameUpToOrder l.fn.self.arena l.self.arena;
  vars : l.self.trail.vars ≡ l.fn.self.trail.vars;
  held : AreHeld l.held l.cube l.self.trail.entries;
}

abbrev pub decreases-descending : goal.decreases-descending
decreases-descending g l = l.self.trail.vars - length l.self.trail.entries
