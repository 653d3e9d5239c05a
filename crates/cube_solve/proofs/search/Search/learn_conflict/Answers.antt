use Rattle.std.proofs.Common.{◌≡◌, ℕ, ◌-◌, List, [], ◌∷◌, ◌++◌, None, ◌∙◌, ap, sym, subst, arith}
use Rattle.std.specs.List.{Contains}
use Rattle.std.specs.FinMap.{get, insert}
use Rattle.dimacs.specs.logic.Literal.{Literal, Clause, var_of}
use Rattle.clause_arena.specs.Clauses.{Clauses, live_of}
use Rattle.watches.specs.Law.{SameUpToOrder}
use Rattle.watches.specs.Trails.{present}
use Rattle.cube_solve.specs.inner.LearntLog.{AreBelow}
use Rattle.cube_solve.specs.inner.Twins.{IsAdded}
use Rattle.cube_solve.specs.inner.DecisionOrder.{IsOrder}
use Rattle.cube_solve.specs.inner.UnitClauses.{IsUnitOf, IsNoted}
use Rattle.cube_solve.proofs.BuiltLemmas.{sound}
use Rattle.cube_solve.proofs.ClauseLemmas.{is_added}
use Rattle.cube_solve.proofs.LevelCutLemmas.{is_fresh}
use Rattle.cube_solve.proofs.LogLemmas.{lemma_limits, lemma_line}
use Rattle.cube_solve.proofs.MapLemmas.{not_live}
use Rattle.cube_solve.proofs.DecisionOrderLemmas.{asserting_false, order_added, order_same}
use Rattle.cube_solve.proofs.StateLemmas.{state_learned}
use Rattle.cube_solve.proofs.UnitClauseLemmas.{noted_added}
use Rattle.cube_solve.proofs.search.Search.learn_conflict.Goals as goal

-- nothing is live under a number that is to come
to_come : (m b : Clauses) (id : ℕ) → b ≡ m → AreBelow id (live_of m) → get b id ≡ None
to_come m b id e below = ap (λ (x : Clauses). get x id) e ∙ not_live m id (λ D h. let b = below id D h in let up = b.1 in omega arith)

-- the clause that joined is the lemma; going back left the clauses as they were
joined : (m b k : Clauses) (id : ℕ) (lits given : Clause) → AreBelow id (live_of m) → b ≡ m → given ≡ lits → (place : ℕ) × SameUpToOrder (insert b id (place, given)) k → IsAdded (live_of m) id lits (live_of k)
joined m b k id lits given below e f s =
    is_added m k id s.0 lits (not_live m id (λ D h. let b = below id D h in let up = b.1 in omega arith))
    (subst (λ (C : Clause). SameUpToOrder (insert m id (s.0, C)) k) f (subst (λ (x : Clauses). SameUpToOrder (insert x id (s.0, given)) k) e s.1))

pub analyse_into-requires : goal.analyse_into-requires
analyse_into-requires g c = record {
  built = ((c.requires.steady).state).built;
  inside = ((c.requires.steady).state).inside;
  conflict = c.requires.conflict;
  here = λ C h f. (((c.requires.steady).state).quiet (present c.args.self.now.state.trail.entries - 1) (let a = c.requires.above in omega arith) c.args.conflict C h).0 f;
  above = c.requires.above;
}

pub write-requires : goal.write-requires
write-requires g c =
    lemma_line (live_of c.args.self.now.state.arena) c.args.self.now.state.trail.vars c.args.id c.analyse_into.new.lemma.lits.items c.analyse_into.new.lemma.hints.items
    c.requires.id c.requires.numbers c.requires.limit c.in_ok-analyse_into.ensures.lemma.within c.in_ok-analyse_into.ensures.lemma.rup

pub note_uses-requires : goal.note_uses-requires
note_uses-requires g c = ((c.requires.steady).state).inside

pub bump-requires-clause-met : goal.bump-requires-clause-met
bump-requires-clause-met g c = rw (c.met.ensures, ((c.requires.steady).order).vars) (c.in_ok-analyse_into.ensures.met).within

pub backtrack-requires : goal.backtrack-requires
backtrack-requires g c = record {
  ready = (c.requires.steady).ready;
  state = (c.requires.steady).state;
  order = let t = c.args.self.now.state.trail in
      subst (IsOrder c.args.self.now.state.arena t) (sym c.note.ensures) (order_same c.args.self.now.state.arena t c.args.self.now.state.order c.bump.new.self c.bump.ensures (c.requires.steady).order);
}

pub add_clause-requires-clause-fresh : goal.add_clause-requires-clause-fresh
add_clause-requires-clause-fresh g c = to_come c.args.self.now.state.arena c.backtrack.new.self.arena c.args.id c.backtrack.ensures.arena c.requires.numbers

pub add_clause-requires-clause-apart : goal.add_clause-requires-clause-apart
add_clause-requires-clause-apart g c = λ i.
    let d = ((c.requires.steady).state).all_live c.args.id (subst (λ (xs : List ℕ). Contains xs c.args.id) c.backtrack.ensures.attached i) in
    let b = c.requires.numbers c.args.id d.0 d.1 in
    let up = b.1 in
    omega arith

pub returns-clause-steady : goal.returns-clause-steady
returns-clause-steady g c =
    let s = c.args.self.now.state in
    let b = c.backtrack in
    let e = c.in_ok-analyse_into.ensures.lemma in
    let lits = c.analyse_into.new.lemma.lits.items in
    record {
      ready = c.in_ok-add_clause.ensures.ready;
      state = state_learned s.arena c.add_clause.new.arena c.args.id lits
          (joined s.arena b.new.self.arena c.add_clause.new.arena c.args.id lits c.deref-4.result.now c.requires.numbers b.ensures.arena c.deref-4.ensures.value c.in_ok-add_clause.ensures.clauses)
          _ _ s.trail b.new.self.trail c.analyse_into.new.lemma.level (c.in_ok-add_clause.ensures.ok ∙ ap (λ (xs : List ℕ). xs ++ c.args.id ∷ []) b.ensures.attached)
          (c.requires.steady).state e.asserting e.within b.ensures.vars b.ensures.front b.ensures.kept;
      order = order_added b.new.self.arena c.add_clause.new.arena c.args.id lits b.new.self.trail b.new.self.order
          (subst (λ (m : Clauses). IsAdded (live_of m) c.args.id lits (live_of c.add_clause.new.arena)) (sym b.ensures.arena)
          (joined s.arena b.new.self.arena c.add_clause.new.arena c.args.id lits c.deref-4.result.now c.requires.numbers b.ensures.arena c.deref-4.ensures.value c.in_ok-add_clause.ensures.clauses))
          (λ l i. b.ensures.waits l (asserting_false s.trail.entries lits c.analyse_into.new.lemma.level e.asserting l i)) (b.ensures.steady).order;
    }

pub returns-clause-learns : goal.returns-clause-learns
returns-clause-learns g c =
    let m = c.args.self.now.state.arena in
    let es = c.args.self.now.state.trail.entries in
    let lits = c.analyse_into.new.lemma.lits.items in
    let hints = c.analyse_into.new.lemma.hints.items in
    let e = c.in_ok-analyse_into.ensures.lemma in
    let s = (c.requires.steady).state in
    record {
      lits = lits;
      written = record {
        hints = hints;
        rup = e.rup;
        within = e.within;
        few = c.requires.limit;
        limits = lemma_limits (live_of m) c.args.self.now.state.trail.vars c.args.id lits hints c.requires.id c.requires.numbers e.within e.rup;
        text = c.in_ok-write.ensures;
      };
      is_new = is_fresh (live_of m) es lits c.analyse_into.new.lemma.level (sound (live_of m) es s.built) s.quiet e.asserting;
      added = joined m c.backtrack.new.self.arena c.add_clause.new.arena c.args.id lits c.deref-4.result.now c.requires.numbers c.backtrack.ensures.arena c.deref-4.ensures.value c.in_ok-add_clause.ensures.clauses;
    }

pub list_root_literals-requires : goal.list_root_literals-requires
list_root_literals-requires g c = ((c.requires.steady).state).inside

pub returns-clause-noted : goal.returns-clause-noted
returns-clause-noted g c =
    let m = c.args.self.now.state.arena in
    let lits = c.analyse_into.new.lemma.lits.items in
    noted_added (live_of m) (live_of c.add_clause.new.arena) c.args.id lits c.args.self.now.units.numbers.items c.note-2.new.self.numbers.items c.note-2.ensures.kept
    (subst (λ (C : Clause). (l : Literal) → IsUnitOf C l → IsNoted c.note-2.new.self.numbers.items (var_of l)) c.deref-5.ensures.value c.note-2.ensures.noted)
    (joined m c.backtrack.new.self.arena c.add_clause.new.arena c.args.id lits c.deref-4.result.now c.requires.numbers c.backtrack.ensures.arena c.deref-4.ensures.value c.in_ok-add_clause.ensures.clauses)
    c.requires.noted
