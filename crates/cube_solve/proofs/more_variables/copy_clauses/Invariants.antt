use Rattle.std.proofs.Common.{◌≡◌, ◌+◌, ◌-◌, ◌≤◌}
use Rattle.clause_arena.specs.Clauses.{live_of}
use Rattle.cube_solve.specs.inner.CopiedClauses.{AreCopied}
use Rattle.cube_solve.specs.inner.SearchInvariants.{IsSteady}
use Rattle.cube_solve.specs.inner.UnitClauses.{AreNoted}
use Rattle.cube_solve.proofs.more_variables.copy_clauses.Given as goal

abbrev pub invariant-loop-id : goal.invariant-loop-id
invariant-loop-id g l = record {
  steady : IsSteady g.P.Propagator.is_ready g.P.Propagator.attached l.search.state;
  noted : AreNoted (live_of l.search.state.arena) l.search.units.numbers.items;
  vars : l.search.state.trail.vars ≡ l.fn.search.state.trail.vars;
  moved : AreCopied l.id (live_of l.arena) (live_of l.search.state.arena);
  low : 1 ≤ l.id;
  high : l.id ≤ l.top + 1;
}

abbrev pub decreases-loop-id : goal.decreases-loop-id
decreases-loop-id g l = l.top + 1 - l.id
