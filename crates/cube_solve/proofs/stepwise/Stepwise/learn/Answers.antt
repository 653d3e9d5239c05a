use Rattle.std.proofs.Common.{◌≡◌, ◌+◌, ◌++◌, ◌≤◌, length, sym, subst, arith}
use Rattle.dimacs.specs.logic.ClauseMap.{Live}
use Rattle.clause_arena.specs.Clauses.{live_of}
use Rattle.cube_solve.proofs.DeletionLemmas.{search_kept}
use Rattle.cube_solve.proofs.ReductionLemmas.{lemmas_more}
use Rattle.cube_solve.proofs.SearchLemmas.{below_more, search_learns}
use Rattle.cube_solve.proofs.StepwiseLemmas.{below, learns_behind, number, reduces_behind}
use Rattle.cube_solve.proofs.UnitClauseLemmas.{noted_kept}
use Rattle.cube_solve.specs.declared.unit_clauses.UnitClauses.{UnitClauses}
use Rattle.cube_solve.specs.inner.UnitClauses.{AreNoted}
use Rattle.cube_solve.proofs.stepwise.Stepwise.learn.Goals as goal

-- what is noted stays
noted_units : (live : Live) (a b : UnitClauses) → b ≡ a → AreNoted live a.numbers.items → AreNoted live b.numbers.items
noted_units live a b e h = subst (λ (u : UnitClauses). AreNoted live u.numbers.items) (sym e) h

pub learn-requires-clause-numbers : goal.learn-requires-clause-numbers
learn-requires-clause-numbers g c =
    let (B, q, limit, before, h) = c.requires.under in
    below g.P.Propagator.is_ready g.P.Propagator.attached B q limit before c.args.self.now h

pub returns-then-not-branch : goal.returns-then-not-branch
returns-then-not-branch g c = λ B q limit before h.
    let s = c.args.self.now in
    let old = s.search in
    let mid = c.learn.new.self in
    let e = c.in_ok-learn.ensures in
    let first = length B.clauses + 1 in
    let id = s.clauses + 1 + s.learnt in
    let is : id ≡ length B.clauses + 1 + s.learnt = (let k = h.clauses in omega arith) in
    let behind : first ≤ id = omega arith in
    let numbered = number g.P.Propagator.is_ready g.P.Propagator.attached B q limit before s h in
    let under = below g.P.Propagator.is_ready g.P.Propagator.attached B q limit before s h in
    let learns = learns_behind before old.state.trail.vars id (live_of old.state.arena) (live_of mid.state.arena) old.log mid.log e.learns in
    record {
      steady = e.steady;
      learnt = search_learns B s.learnt id old.state.arena mid.state.arena old.state.trail mid.state.trail (before ++ old.log) (before ++ mid.log) is numbered h.learnt learns e.vars;
      lemmas = lemmas_more first id (live_of old.state.arena) (live_of mid.state.arena) (e.learns).lits old.lemmas.items mid.lemmas.items e.lemmas behind under (e.learns).added h.lemmas;
      noted = e.noted;
      assuming = e.assuming q h.assuming;
      distinct = h.distinct;
      within = h.within;
      base = h.base;
      clauses = h.clauses;
      most = h.most;
      few = (let l = c.requires.limit in omega arith);
      taken = h.taken;
    }

pub restart_and_reduce-requires-clause-rising : goal.restart_and_reduce-requires-clause-rising
restart_and_reduce-requires-clause-rising g c =
    let (B, q, limit, before, h) = c.requires.under in
    let s = c.args.self.now in
    let mid = c.learn.new.self in
    let e = c.in_ok-learn.ensures in
    let id = s.clauses + 1 + s.learnt in
    let behind : length B.clauses + 1 ≤ id = (let k = h.clauses in omega arith) in
    let under = below g.P.Propagator.is_ready g.P.Propagator.attached B q limit before s h in
    (lemmas_more (length B.clauses + 1) id (live_of s.search.state.arena) (live_of mid.state.arena) (e.learns).lits s.search.lemmas.items mid.lemmas.items e.lemmas
    behind under (e.learns).added h.lemmas).rising

pub restart_and_reduce-requires-clause-numbers : goal.restart_and_reduce-requires-clause-numbers
restart_and_reduce-requires-clause-numbers g c =
    let (B, q, limit, before, h) = c.requires.under in
    let s = c.args.self.now in
    let l = c.in_ok-learn.ensures.learns in
    below_more (s.clauses + 1 + s.learnt) (live_of s.search.state.arena) (live_of c.learn.new.self.state.arena) l.lits
    (number g.P.Propagator.is_ready g.P.Propagator.attached B q limit before s h)
    (below g.P.Propagator.is_ready g.P.Propagator.attached B q limit before s h) l.added

pub returns : goal.returns
returns g c = λ B q limit before h.
    let s = c.args.self.now in
    let old = s.search in
    let mid = c.learn.new.self in
    let new = c.restart_and_reduce.new.self in
    let e = c.in_ok-learn.ensures in
    let p = c.in_ok-restart_and_reduce.ensures in
    let first = length B.clauses + 1 in
    let id = s.clauses + 1 + s.learnt in
    let is : id ≡ length B.clauses + 1 + s.learnt = (let k = h.clauses in omega arith) in
    let behind : first ≤ id = omega arith in
    let numbered = number g.P.Propagator.is_ready g.P.Propagator.attached B q limit before s h in
    let under = below g.P.Propagator.is_ready g.P.Propagator.attached B q limit before s h in
    let learns = learns_behind before old.state.trail.vars id (live_of old.state.arena) (live_of mid.state.arena) old.log mid.log e.learns in
    let held = lemmas_more first id (live_of old.state.arena) (live_of mid.state.arena) (e.learns).lits old.lemmas.items mid.lemmas.items e.lemmas behind under (e.learns).added h.lemmas in
    record {
      steady = p.steady;
      learnt = search_kept B (s.learnt + 1) mid.state.arena new.state.arena mid.state.trail new.state.trail (before ++ mid.log) (before ++ new.log)
          (search_learns B s.learnt id old.state.arena mid.state.arena old.state.trail mid.state.trail (before ++ old.log) (before ++ mid.log) is numbered h.learnt learns e.vars)
          (reduces_behind before first (live_of mid.state.arena) (live_of new.state.arena) mid.log new.log (p.kept first held)) p.vars;
      lemmas = p.lemmas first held;
      noted = noted_units (live_of new.state.arena) mid.units new.units p.units (noted_kept first (live_of mid.state.arena) (live_of new.state.arena) mid.log new.log mid.units.numbers.items (p.kept first held) e.noted);
      assuming = p.assuming q (e.assuming q h.assuming);
      distinct = h.distinct;
      within = h.within;
      base = h.base;
      clauses = h.clauses;
      most = h.most;
      few = (let l = c.requires.limit in omega arith);
      taken = h.taken;
    }
