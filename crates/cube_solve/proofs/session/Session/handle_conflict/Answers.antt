use Rattle.cube_solve.proofs.SessionLogLemmas.{tells_dropped, tells_learnt, tells_on}
use Rattle.std.proofs.Common.{◌≡◌, ℕ, ◌≤◌, refl, sym, ◌∙◌, subst, arith}
use Rattle.dimacs.specs.logic.ClauseMap.{Live}
use Rattle.clause_arena.specs.Clauses.{live_of}
use Rattle.cube_solve.proofs.ReductionLemmas.{lemmas_more}
use Rattle.cube_solve.proofs.SearchLemmas.{below_more}
use Rattle.cube_solve.proofs.SessionLemmas.{has_dropped, has_learnt}
use Rattle.cube_solve.proofs.UnitClauseLemmas.{noted_kept}
use Rattle.cube_solve.specs.declared.unit_clauses.UnitClauses.{UnitClauses}
use Rattle.cube_solve.specs.inner.LearntLog.{AreBelow}
use Rattle.cube_solve.specs.inner.Queries.{AreStamped}
use Rattle.cube_solve.specs.inner.UnitClauses.{AreNoted}
use Rattle.cube_solve.proofs.session.Session.handle_conflict.Goals as goal

-- what is noted stays
noted_units : (live : Live) (a b : UnitClauses) → b ≡ a → AreNoted live a.numbers.items → AreNoted live b.numbers.items
noted_units live a b e h = subst (λ (u : UnitClauses). AreNoted live u.numbers.items) (sym e) h

pub learn-requires-clause-numbers : goal.learn-requires-clause-numbers
learn-requires-clause-numbers g c = subst (λ (n : ℕ). AreBelow n (live_of c.args.self.now.search.state.arena)) (sym c.in_ok-id.ensures.next) (c.requires.ready).below

pub restart_and_reduce-requires-clause-rising : goal.restart_and_reduce-requires-clause-rising
restart_and_reduce-requires-clause-rising g c =
    let s = c.args.self.now.search in
    let e = c.in_ok-learn.ensures in
    let old = live_of s.state.arena in
    let below : AreBelow c.in_ok-id.id old = subst (λ (n : ℕ). AreBelow n old) (sym c.in_ok-id.ensures.next) (c.requires.ready).below in
    (lemmas_more 0 c.in_ok-id.id old (live_of c.learn.new.self.state.arena) (e.learns).lits s.lemmas.items c.learn.new.self.lemmas.items e.lemmas (omega arith) below (e.learns).added (c.requires.ready).lemmas).rising

pub restart_and_reduce-requires-clause-numbers : goal.restart_and_reduce-requires-clause-numbers
restart_and_reduce-requires-clause-numbers g c =
    let s = c.args.self.now.search in
    let e = c.in_ok-learn.ensures in
    let old = live_of s.state.arena in
    let below : AreBelow c.in_ok-id.id old = subst (λ (n : ℕ). AreBelow n old) (sym c.in_ok-id.ensures.next) (c.requires.ready).below in
    below_more c.in_ok-id.id old (live_of c.learn.new.self.state.arena) (e.learns).lits c.in_ok-id.ensures.number below (e.learns).added

pub returns-clause-ready : goal.returns-clause-ready
returns-clause-ready g c =
    let s = c.args.self.now in
    let e = c.in_ok-learn.ensures in
    let p = c.in_ok-restart_and_reduce.ensures in
    let old = live_of s.search.state.arena in
    let mid = c.learn.new.self in
    let new = c.restart_and_reduce.new.self in
    let id = c.in_ok-id.id in
    let below : AreBelow id old = subst (λ (n : ℕ). AreBelow n old) (sym c.in_ok-id.ensures.next) (c.requires.ready).below in
    let h = lemmas_more 0 id old (live_of mid.state.arena) (e.learns).lits s.search.lemmas.items mid.lemmas.items e.lemmas (omega arith) below (e.learns).added (c.requires.ready).lemmas in
    record {
      steady = p.steady;
      below = λ j D i. below_more id old (live_of mid.state.arena) (e.learns).lits c.in_ok-id.ensures.number below (e.learns).added j D (((p.drops).less).was j D i).1;
      lemmas = p.lemmas 0 h;
      noted = noted_units (live_of new.state.arena) mid.units new.units p.units (noted_kept 0 (live_of mid.state.arena) (live_of new.state.arena) mid.log new.log mid.units.numbers.items (p.kept 0 h) e.noted);
      few = subst (λ v. v ≤ 199999999) (sym (p.vars ∙ e.vars)) (c.requires.ready).few;
      bounded = c.in_ok-id.ensures.bounded;
      stamped = subst (λ v. AreStamped v s.marks) (sym (p.vars ∙ e.vars)) (c.requires.ready).stamped;
    }

pub returns-clause-given : goal.returns-clause-given
returns-clause-given g c = λ F k.
    let s = c.args.self.now in
    let e = c.in_ok-learn.ensures in
    let p = c.in_ok-restart_and_reduce.ensures in
    let old = live_of s.search.state.arena in
    let mid = c.learn.new.self in
    let new = c.restart_and_reduce.new.self in
    let id = c.in_ok-id.id in
    let below : AreBelow id old = subst (λ (n : ℕ). AreBelow n old) (sym c.in_ok-id.ensures.next) (c.requires.ready).below in
    has_dropped F id (live_of mid.state.arena) (live_of new.state.arena) mid.lemmas.items new.lemmas.items mid.log new.log p.drops
    (has_learnt F old (live_of mid.state.arena) id (e.learns).lits ((e.learns).written).hints s.search.lemmas.items mid.lemmas.items e.lemmas below (e.learns).added ((e.learns).written).rup k)

pub returns-clause-assuming : goal.returns-clause-assuming
returns-clause-assuming g c = λ q h. c.in_ok-restart_and_reduce.ensures.assuming q (c.in_ok-learn.ensures.assuming q h)

pub returns-then-not-branch-clause-ready : goal.returns-then-not-branch-clause-ready
returns-then-not-branch-clause-ready g c =
    let s = c.args.self.now in
    let e = c.in_ok-learn.ensures in
    let old = live_of s.search.state.arena in
    let mid = c.learn.new.self in
    let id = c.in_ok-id.id in
    let below : AreBelow id old = subst (λ (n : ℕ). AreBelow n old) (sym c.in_ok-id.ensures.next) (c.requires.ready).below in
    record {
      steady = e.steady;
      below = below_more id old (live_of mid.state.arena) (e.learns).lits c.in_ok-id.ensures.number below (e.learns).added;
      lemmas = lemmas_more 0 id old (live_of mid.state.arena) (e.learns).lits s.search.lemmas.items mid.lemmas.items e.lemmas (omega arith) below (e.learns).added (c.requires.ready).lemmas;
      noted = e.noted;
      few = subst (λ v. v ≤ 199999999) (sym e.vars) (c.requires.ready).few;
      bounded = c.in_ok-id.ensures.bounded;
      stamped = subst (λ v. AreStamped v s.marks) (sym e.vars) (c.requires.ready).stamped;
    }

pub returns-then-not-branch-clause-given : goal.returns-then-not-branch-clause-given
returns-then-not-branch-clause-given g c = λ F k.
    let s = c.args.self.now in
    let e = c.in_ok-learn.ensures in
    let old = live_of s.search.state.arena in
    let mid = c.learn.new.self in
    let id = c.in_ok-id.id in
    let below : AreBelow id old = subst (λ (n : ℕ). AreBelow n old) (sym c.in_ok-id.ensures.next) (c.requires.ready).below in
    has_learnt F old (live_of mid.state.arena) id (e.learns).lits ((e.learns).written).hints s.search.lemmas.items mid.lemmas.items e.lemmas below (e.learns).added ((e.learns).written).rup k

pub returns-clause-tells : goal.returns-clause-tells
returns-clause-tells g c =
    let s = c.args.self.now in
    let e = c.in_ok-learn.ensures in
    let mid = record s { search = c.learn.new.self; top = c.in_ok-id.id } in
    let new = record s { search = c.restart_and_reduce.new.self; top = c.in_ok-id.id } in
    let old = live_of s.search.state.arena in
    let id = c.in_ok-id.id in
    let below : AreBelow id old = subst (λ (n : ℕ). AreBelow n old) (sym c.in_ok-id.ensures.next) (c.requires.ready).below in
    let held = lemmas_more 0 id old (live_of c.learn.new.self.state.arena) (e.learns).lits s.search.lemmas.items c.learn.new.self.lemmas.items e.lemmas (omega arith) below (e.learns).added (c.requires.ready).lemmas in
    tells_on s mid new (tells_learnt s mid e.vars c.in_ok-id.ensures.next (c.requires.ready).below e.lemmas e.learns) (tells_dropped mid new c.in_ok-restart_and_reduce.ensures.vars c.in_ok-id.ensures.number refl held c.in_ok-restart_and_reduce.ensures.drops)

pub returns-then-not-branch-clause-tells : goal.returns-then-not-branch-clause-tells
returns-then-not-branch-clause-tells g c =
    let s = c.args.self.now in
    let e = c.in_ok-learn.ensures in
    tells_learnt s (record s { search = c.learn.new.self; top = c.in_ok-id.id }) e.vars c.in_ok-id.ensures.next (c.requires.ready).below e.lemmas e.learns
