use Rattle.std.proofs.Common.{◌≡◌, ◌+◌, ◌*◌, ◌<◌, length, take}
use Rattle.std.specs.List.{All}
use Rattle.dimacs.specs.logic.ClauseMap.{live_in}
use Rattle.clause_arena.specs.Clauses.{live_of}
use Rattle.cube_solve.specs.inner.Twins.{AreLinked}
use Rattle.cube_solve.specs.inner.State.{IsState}
use Rattle.lrat_text.proofs.ClauseMapLemmas.{numbered}
use Rattle.cube_solve.proofs.base_loader.load.Given as goal

abbrev pub invariant-loop-i : goal.invariant-loop-i
invariant-loop-i g l = record {
  ready : g.P.Propagator.is_ready l.propagator l.arena l.trail;
  state : IsState (g.P.Propagator.attached l.propagator) l.arena l.trail;
  linked : AreLinked (live_in (numbered (take l.i l.base.clauses))) (live_of l.arena);
  bounded : All (λ s. s < l.i + 1) l.stamps;
  sized : length l.stamps ≡ 2 * l.rows + 2;
}
