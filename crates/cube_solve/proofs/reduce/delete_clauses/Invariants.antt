use Rattle.std.proofs.Common.{take}
use Rattle.clause_arena.specs.Clauses.{live_of}
use Rattle.cube_solve.specs.inner.Reduction.{AreAllExcept}
use Rattle.cube_solve.specs.inner.State.{IsState}
use Rattle.cube_solve.proofs.reduce.delete_clauses.Given as goal

abbrev pub invariant-loop-number : goal.invariant-loop-number
invariant-loop-number g l = record {
  ready : g.P.Propagator.is_ready l.propagator l.arena l.trail;
  state : IsState (g.P.Propagator.attached l.propagator) l.arena l.trail;
  less : AreAllExcept (live_of l.fn.arena) (take l.number-index l.numbers) (live_of l.arena);
}
