use Rattle.std.specs.List.{Contains}
use Rattle.dimacs.proofs.Members.{Contains-nil}
use Rattle.std.proofs.Common.{ℕ, ◌≤◌, List, sym, ◌∙◌, subst, arith}
use Rattle.clause_arena.specs.Clauses.{live_of}
use Rattle.cube_solve.specs.inner.Reduction.{AreLemmas}
use Rattle.cube_solve.specs.inner.Queries.{AreStamped, HasClauses}
use Rattle.cube_solve.proofs.ReductionLemmas.{lemmas_none}
use Rattle.cube_solve.proofs.SessionLemmas.{has_base}
use Rattle.cube_solve.proofs.session.Session.new.Goals as goal

pub returns-clause-given : goal.returns-clause-given
returns-clause-given g c =
    let B = c.args.base.now in
    let s = c.in_ok-search.search in
    subst (λ (ls : List ℕ). HasClauses B.clauses (live_of s.state.arena) ls) (sym c.in_ok-search.ensures.lemmas) (has_base B (live_of s.state.arena) c.in_ok-search.ensures.linked)

pub returns-clause-ready : goal.returns-clause-ready
returns-clause-ready g c =
    let B = c.args.base.now in
    let s = c.in_ok-search.search in
    let e = c.in_ok-search.ensures in
    let l = (e.searching).learnt in
    record {
      steady = (e.searching).steady;
      below = λ j D i. let b = l.below j D i in let up = b.1 in let n = c.len.ensures in (b.0, omega arith);
      lemmas = subst (λ (ls : List ℕ). AreLemmas 0 (live_of s.state.arena) ls) (sym e.lemmas) (lemmas_none 0 (live_of s.state.arena));
      noted = (e.searching).noted;
      few = subst (λ v. v ≤ 199999999) (sym l.vars) (c.vars-vars.ensures.valid).vars;
      bounded = (let b = (c.vars-vars.ensures.valid).clauses in let n = c.len.ensures in omega arith);
      stamped = subst (λ v. AreStamped v c.in_ok-new.field-0) (c.vars-vars.ensures.value ∙ sym l.vars) c.in_ok-new.ensures;
    }

pub returns-clause-known : goal.returns-clause-known
returns-clause-known g c = λ given few.
    let e = c.in_ok-search.ensures in
    record {
      linked = e.linked;
      before = λ n i. subst (λ k. n ≤ k) (sym c.len.ensures) (few n i);
      apart = λ n i j. Contains-nil n (subst (λ (xs : List ℕ). Contains xs n) e.lemmas j);
    }
