use Rattle.std.proofs.Common.{◌≡◌}
use Rattle.cube_solve.specs.Session.{IsReady, vars_of}
use Rattle.crate_tests.proofs.cube_solve_sessions.lend_all.Given as goal

abbrev pub invariant-loop-i : goal.invariant-loop-i
invariant-loop-i g l = record {
  ready : IsReady g.P.Propagator.is_ready g.P.Propagator.attached l.session;
  vars : vars_of l.session ≡ vars_of l.fn.session;
}
