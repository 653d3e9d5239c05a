use Rattle.std.proofs.Common.{◌≡◌, ℕ, List, None, ◌∙◌, ap, sym, subst, arith}
use Rattle.std.specs.List.{All, Contains}
use Rattle.std.specs.FinMap.{get, insert}
use Rattle.dimacs.specs.logic.Literal.{Clause, IsWithin}
use Rattle.clause_arena.specs.Clauses.{Clauses, live_of}
use Rattle.watches.specs.Law.{SameUpToOrder}
use Rattle.cube_solve.specs.inner.LearntLog.{AreBelow}
use Rattle.cube_solve.specs.inner.Twins.{IsAdded}
use Rattle.cube_solve.proofs.ClauseLemmas.{is_added}
use Rattle.cube_solve.proofs.DecisionOrderLemmas.{order_added, order_inserted}
use Rattle.cube_solve.proofs.JoiningLemmas.{calm_cut}
use Rattle.cube_solve.proofs.MapLemmas.{not_live}
use Rattle.cube_solve.proofs.StateLemmas.{state_given}
use Rattle.cube_solve.proofs.state.State.add_given.Goals as goal

-- nothing is live under a number that is to come; going back left the clauses as they were
to_come : (m b : Clauses) (id : ℕ) → b ≡ m → AreBelow id (live_of m) → get b id ≡ None
to_come m b id e below = ap (λ (x : Clauses). get x id) e ∙ not_live m id (λ D h. let b = below id D h in let up = b.1 in omega arith)

joined : (m b k : Clauses) (id : ℕ) (lits : Clause) → AreBelow id (live_of m) → b ≡ m → (place : ℕ) × SameUpToOrder (insert b id (place, lits)) k → IsAdded (live_of b) id lits (live_of k)
joined m b k id lits below e s = is_added b k id s.0 lits (to_come m b id e below) s.1

pub add_clause-requires-clause-fresh : goal.add_clause-requires-clause-fresh
add_clause-requires-clause-fresh g c = to_come c.args.self.now.arena c.backtrack.new.self.arena c.args.id c.backtrack.ensures.arena c.requires.numbers

pub add_clause-requires-clause-apart : goal.add_clause-requires-clause-apart
add_clause-requires-clause-apart g c = λ i.
    let d = ((c.requires.steady).state).all_live c.args.id (subst (λ (xs : List ℕ). Contains xs c.args.id) c.backtrack.ensures.attached i) in
    let b = c.requires.numbers c.args.id d.0 d.1 in
    let up = b.1 in
    omega arith

pub returns-clause-steady : goal.returns-clause-steady
returns-clause-steady g c =
    let s = c.args.self.now in
    let b = c.backtrack.new.self in
    record {
      ready = c.in_ok-add_clause.ensures.ready;
      state = state_given b.arena c.add_clause.new.arena c.args.id c.args.lits.now
          (joined s.arena b.arena c.add_clause.new.arena c.args.id c.args.lits.now c.requires.numbers c.backtrack.ensures.arena c.in_ok-add_clause.ensures.clauses)
          _ _ b.trail c.in_ok-add_clause.ensures.ok (c.backtrack.ensures.steady).state
          (calm_cut s.trail.entries b.trail.entries (c.backtrack.ensures.front).0 c.args.lits.now c.joining_level-level.result (c.backtrack.ensures.front).1 (c.backtrack.ensures.front).2 c.backtrack.ensures.kept c.joining_level-level.ensures)
          (subst (λ v. All (IsWithin v) c.args.lits.now) (sym c.backtrack.ensures.vars) c.requires.within);
      order = order_added b.arena c.add_clause.new.arena c.args.id c.args.lits.now b.trail c.insert.new.self
          (joined s.arena b.arena c.add_clause.new.arena c.args.id c.args.lits.now c.requires.numbers c.backtrack.ensures.arena c.in_ok-add_clause.ensures.clauses)
          (λ l i f. c.insert.ensures.there l i) (order_inserted b.arena b.trail c.args.lits.now b.order c.insert.new.self c.insert.ensures (c.backtrack.ensures.steady).order);
    }

pub returns-clause-added : goal.returns-clause-added
returns-clause-added g c =
    let s = c.args.self.now in
    let b = c.backtrack.new.self in
    subst (λ (m : Clauses). IsAdded (live_of m) c.args.id c.args.lits.now (live_of c.add_clause.new.arena)) c.backtrack.ensures.arena
    (joined s.arena b.arena c.add_clause.new.arena c.args.id c.args.lits.now c.requires.numbers c.backtrack.ensures.arena c.in_ok-add_clause.ensures.clauses)
