use Rattle.std.proofs.Common.{◌≡◌, ℕ, [], ◌∷◌, None, refl, sym, subst, arith}
use Rattle.std.specs.List.{IsDistinct}
use Rattle.std.specs.FinMap.{get, insert}
use Rattle.dimacs.specs.logic.Literal.{Clause, Literal, same}
use Rattle.clause_arena.specs.Clauses.{Clauses, live_of}
use Rattle.watches.specs.Law.{SameUpToOrder}
use Rattle.watches.specs.inner.ReasonLaws.{explained_alike}
use Rattle.cube_solve.specs.inner.LearntLog.{AreBelow}
use Rattle.cube_solve.specs.inner.Twins.{IsAdded}
use Rattle.cube_solve.proofs.ClauseLemmas.{is_added}
use Rattle.cube_solve.proofs.DecisionOrderLemmas.{fixed_free, order_added}
use Rattle.cube_solve.proofs.RootUnitLemmas.{assuming_explained, order_alike}
use Rattle.cube_solve.proofs.LevelCutLemmas.{up_to_has}
use Rattle.cube_solve.proofs.MapLemmas.{not_live}
use Rattle.cube_solve.proofs.StateLemmas.{state_fixed}
use Rattle.cube_solve.proofs.UnitClauseLemmas.{one_distinct}
use Rattle.cube_solve.proofs.state.State.add_root_unit.Goals as goal

-- nothing is live under a number that is to come
to_come : (m : Clauses) (id : ℕ) → AreBelow id (live_of m) → get m id ≡ None
to_come m id below = not_live m id (λ D h. let b = below id D h in let up = b.1 in omega arith)

-- the clause that joined is the lemma
joined : (m k : Clauses) (id : ℕ) (l : Literal) (given : Clause) → AreBelow id (live_of m) → given ≡ l ∷ [] → (place : ℕ) × SameUpToOrder (insert m id (place, given)) k → IsAdded (live_of m) id (l ∷ []) (live_of k)
joined m k id l given below e s = is_added m k id s.0 (l ∷ []) (to_come m id below) (subst (λ (C : Clause). SameUpToOrder (insert m id (s.0, C)) k) e s.1)

pub add_clause-requires-clause-fresh : goal.add_clause-requires-clause-fresh
add_clause-requires-clause-fresh g c = to_come c.args.self.now.arena c.args.id c.requires.numbers

pub add_clause-requires-clause-apart : goal.add_clause-requires-clause-apart
add_clause-requires-clause-apart g c = λ i.
    let d = ((c.requires.steady).state).all_live c.args.id i in
    let b = c.requires.numbers c.args.id d.0 d.1 in
    let up = b.1 in
    omega arith

pub add_clause-requires-clause-distinct : goal.add_clause-requires-clause-distinct
add_clause-requires-clause-distinct g c = subst (IsDistinct same) (sym c.requires.lits) (one_distinct c.args.literal)

pub explain-requires : goal.explain-requires
explain-requires g c = up_to_has c.args.self.now.trail.entries 0 c.args.literal c.requires.fixed

pub returns-clause-steady : goal.returns-clause-steady
returns-clause-steady g c =
    let s = c.args.self.now in
    let t = s.trail in
    let u = c.explain.new.self in
    let k = c.add_clause.new.arena in
    let l = c.args.literal in
    let x = c.explain.ensures.entries in
    let alike = explained_alike t.entries u.entries l c.args.id x in
    let a = joined s.arena k c.args.id l c.args.lits.now c.requires.numbers c.requires.lits c.in_ok-add_clause.ensures.clauses in
    record {
      ready = g.met.P.Propagator.explained c.add_clause.new.propagator k t u c.in_ok-add_clause.ensures.ready c.explain.ensures.vars alike;
      state = state_fixed s.arena k c.args.id (l ∷ []) a _ _ t u l refl c.in_ok-add_clause.ensures.ok (c.requires.steady).state (c.entries.ensures.valid).apart c.requires.within c.requires.fixed c.explain.ensures.vars x;
      order = order_alike k t u s.order c.explain.ensures.vars alike
          (order_added s.arena k c.args.id (l ∷ []) t s.order a (λ x i f. absurd (fixed_free t l x c.requires.fixed i f)) (c.requires.steady).order);
    }

pub returns-clause-added : goal.returns-clause-added
returns-clause-added g c = joined c.args.self.now.arena c.add_clause.new.arena c.args.id c.args.literal c.args.lits.now c.requires.numbers c.requires.lits c.in_ok-add_clause.ensures.clauses

pub returns-clause-assuming : goal.returns-clause-assuming
returns-clause-assuming g c = λ q h. assuming_explained c.args.self.now.trail.entries c.explain.new.self.entries c.args.literal c.args.id c.explain.ensures.entries q c.args.self.now.assumed h
