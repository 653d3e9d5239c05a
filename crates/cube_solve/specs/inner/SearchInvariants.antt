-- The invariants of a search and its state, between two steps.
use Rattle.std.specs.Prelude.{ℕ, ◌+◌, List, length}
use Rattle.dimacs.specs.logic.Cnf.{Cnf}
use Rattle.clause_arena.specs.Clauses.{Clauses, live_of}
use Rattle.watches.specs.Trails.{TrailValue}
use Rattle.cube_solve.specs.inner.Reduction.{AreLemmas}
use Rattle.cube_solve.specs.inner.LearntLog.{IsSearch}
use Rattle.cube_solve.specs.inner.DecisionOrder.{IsOrder}
use Rattle.cube_solve.specs.inner.State.{IsState}
use Rattle.cube_solve.specs.inner.UnitClauses.{AreNoted}
use Rattle.cube_solve.specs.declared.search.Search.{Search}
use Rattle.cube_solve.specs.declared.state.State.{State}

-- a state's invariant: the propagator is ready, clauses and trail agree, and each unassigned variable of a clause is in the decision
-- order
pub record IsSteady {P : Type 0} (is_ready : P → Clauses → TrailValue → Type 0) (attached : P → List ℕ) (s : State P) : Type 0 where
  pub ready : is_ready s.propagator.now s.arena s.trail
  pub state : IsState (attached s.propagator.now) s.arena s.trail
  pub order : IsOrder s.arena s.trail s.order

-- a search's invariant, after n lemmas over the base B
pub record IsSearching {P : Type 0} (is_ready : P → Clauses → TrailValue → Type 0) (attached : P → List ℕ) (B : Cnf) (n : ℕ) (s : Search P) : Type 0 where
  pub steady : IsSteady is_ready attached s.state
  pub learnt : IsSearch B n s.state.arena s.state.trail s.log
  pub lemmas : AreLemmas (length B.clauses + 1) (live_of s.state.arena) s.lemmas.items
  pub noted : AreNoted (live_of s.state.arena) s.units.numbers.items
