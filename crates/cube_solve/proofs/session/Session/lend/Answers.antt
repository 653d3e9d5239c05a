use Rattle.std.proofs.Common.{ℕ, ◌≤◌, List, [], ◌∷◌, sym, ◌∙◌, subst, arith}
use Rattle.std.specs.List.{All, Contains, IsDistinct}
use Rattle.std.proofs.lemmas.List.Elements.{Contains-append_right}
use Rattle.dimacs.specs.logic.Literal.{Clause, IsWithin, same}
use Rattle.dimacs.proofs.Members.{Contains-head}
use Rattle.clause_arena.specs.Clauses.{live_of}
use Rattle.cube_solve.specs.inner.LearntLog.{AreBelow}
use Rattle.cube_solve.specs.inner.Twins.{AreTwins}
use Rattle.cube_solve.specs.inner.Queries.{AreStamped}
use Rattle.cube_solve.proofs.ClauseLemmas.{bound_same}
use Rattle.cube_solve.proofs.ReductionLemmas.{lemmas_more}
use Rattle.cube_solve.proofs.SearchLemmas.{below_more}
use Rattle.cube_solve.proofs.SessionLemmas.{has_lent}
use Rattle.cube_solve.proofs.SessionLogLemmas.{known_lent}
use Rattle.cube_solve.proofs.session.Session.lend.Goals as goal

pub add_lent-requires-clause-distinct : goal.add_lent-requires-clause-distinct
add_lent-requires-clause-distinct g c = subst (λ (C : Clause). IsDistinct same C) (sym c.deref.ensures.value) (c.in_ok-mark.ensures.marks).distinct

pub add_lent-requires-clause-within : goal.add_lent-requires-clause-within
add_lent-requires-clause-within g c =
    subst (λ (C : Clause). All (IsWithin c.args.self.now.search.state.trail.vars) C) (sym c.deref.ensures.value)
    (bound_same (IsWithin c.args.self.now.search.state.trail.vars) c.args.clause.now c.mark.new.kept.items (c.in_ok-mark.ensures.marks).twins c.requires.within)

pub add_lent-requires-clause-numbers : goal.add_lent-requires-clause-numbers
add_lent-requires-clause-numbers g c = subst (λ (n : ℕ). AreBelow n (live_of c.args.self.now.search.state.arena)) (sym c.in_ok-id.ensures.next) (c.requires.ready).below

pub returns-clause-ready : goal.returns-clause-ready
returns-clause-ready g c =
    let s = c.args.self.now in
    let e = c.in_ok-add_lent.ensures in
    let old = live_of s.search.state.arena in
    let new = live_of c.add_lent.new.self.state.arena in
    let id = c.in_ok-id.id in
    let below : AreBelow id old = subst (λ (n : ℕ). AreBelow n old) (sym c.in_ok-id.ensures.next) (c.requires.ready).below in
    record {
      steady = e.steady;
      below = below_more id old new c.deref.result.now c.in_ok-id.ensures.number below e.added;
      lemmas = lemmas_more 0 id old new c.deref.result.now s.search.lemmas.items c.add_lent.new.self.lemmas.items e.lemmas (omega arith) below e.added (c.requires.ready).lemmas;
      noted = e.noted;
      few = subst (λ v. v ≤ 199999999) (sym e.vars) (c.requires.ready).few;
      bounded = c.in_ok-id.ensures.bounded;
      stamped = subst (λ v. AreStamped v c.mark.new.self) (c.vars-vars.ensures ∙ sym e.vars) c.in_ok-mark.ensures.stamped;
    }

pub returns-clause-given : goal.returns-clause-given
returns-clause-given g c = λ F h follows.
    let s = c.args.self.now in
    let e = c.in_ok-add_lent.ensures in
    let old = live_of s.search.state.arena in
    let id = c.in_ok-id.id in
    let below : AreBelow id old = subst (λ (n : ℕ). AreBelow n old) (sym c.in_ok-id.ensures.next) (c.requires.ready).below in
    has_lent F old (live_of c.add_lent.new.self.state.arena) id c.args.clause.now c.deref.result.now s.search.lemmas.items c.add_lent.new.self.lemmas.items e.lemmas below
    (subst (λ (C : Clause). AreTwins c.args.clause.now C) (sym c.deref.ensures.value) (c.in_ok-mark.ensures.marks).twins) e.added follows h

pub returns-clause-known : goal.returns-clause-known
returns-clause-known g c =
    let s = c.args.self.now in
    let e = c.in_ok-add_lent.ensures in
    known_lent s (record s { search = c.add_lent.new.self; top = c.in_ok-id.id; marks = c.mark.new.self }) c.args.clause.now c.deref.result.now c.in_ok-id.ensures.next
    (c.requires.ready).below e.lemmas
    (subst (λ (C : Clause). AreTwins c.args.clause.now C) (sym c.deref.ensures.value) (c.in_ok-mark.ensures.marks).twins) e.added

pub returns-clause-lemma : goal.returns-clause-lemma
returns-clause-lemma g c =
    let id = c.in_ok-id.id in
    let before = c.args.self.now.search.lemmas.items in
    subst (λ (xs : List ℕ). Contains xs id) (sym c.in_ok-add_lent.ensures.lemmas) (Contains-append_right before (id ∷ []) id (Contains-head id []))
