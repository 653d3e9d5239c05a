use Rattle.std.proofs.Common.{◌≡◌, ◌+◌, ◌-◌, ◌≤◌, List}
use Rattle.dimacs.specs.logic.Literal.{Clause}
use Rattle.cube_solve.specs.Session.{AreGiven, IsReady, last_of, vars_of}
use Rattle.cube_solve.specs.SessionLog.{LogGrows}
use Rattle.cube_solve.specs.inner.State.{IsAssuming}
use Rattle.cube_solve.proofs.session.Session.search_query.Given as goal

abbrev pub invariant-turns : goal.invariant-turns
invariant-turns g l = record {
  ready : IsReady g.P.Propagator.is_ready g.P.Propagator.attached l.self;
  given : (F : List Clause) → AreGiven F l.fn.self → AreGiven F l.self;
  tells : LogGrows l.fn.self l.self;
  vars : vars_of l.self ≡ vars_of l.fn.self;
  last : last_of l.self ≡ last_of l.fn.self + l.learnt;
  assuming : IsAssuming l.query l.self.search.state.trail.entries l.self.search.state.assumed;
  within : l.learnt ≤ l.limit;
}

abbrev pub decreases-turns : goal.decreases-turns
decreases-turns g l = l.limit - l.learnt
