use Rattle.std.proofs.Common.{◌≡◌, ◌+◌, ◌≤◌, length, sym, subst, arith}
use Rattle.dimacs.specs.logic.ClauseMap.{Live}
use Rattle.clause_arena.specs.Clauses.{live_of}
use Rattle.cube_solve.proofs.DeletionLemmas.{search_kept}
use Rattle.cube_solve.proofs.ReductionLemmas.{lemmas_more}
use Rattle.cube_solve.proofs.SearchLemmas.{below_more, next_below, next_number, search_learns}
use Rattle.cube_solve.proofs.UnitClauseLemmas.{noted_kept}
use Rattle.cube_solve.specs.declared.unit_clauses.UnitClauses.{UnitClauses}
use Rattle.cube_solve.specs.inner.UnitClauses.{AreNoted}
use Rattle.cube_solve.proofs.search.Search.handle_conflict.Goals as goal

-- what is noted stays
noted_units : (live : Live) (a b : UnitClauses) → b ≡ a → AreNoted live a.numbers.items → AreNoted live b.numbers.items
noted_units live a b e h = subst (λ (u : UnitClauses). AreNoted live u.numbers.items) (sym e) h

pub learn-requires-clause-id : goal.learn-requires-clause-id
learn-requires-clause-id g c = next_number c.args.base.now c.len.result c.args.learnt c.vars.ensures.valid c.len.ensures (let l = c.requires.limit in omega arith)

pub learn-requires-clause-numbers : goal.learn-requires-clause-numbers
learn-requires-clause-numbers g c =
    let s = c.args.self.now in
    next_below c.args.base.now c.len.result c.args.learnt s.state.arena s.state.trail s.log c.len.ensures (c.requires.searching).learnt

-- the lemma is one more
pub restart_and_reduce-requires-clause-rising : goal.restart_and_reduce-requires-clause-rising
restart_and_reduce-requires-clause-rising g c =
    let s = c.args.self.now in
    let e = c.in_ok-learn.ensures in
    let first = length c.args.base.now.clauses + 1 in
    let id = c.len.result + 1 + c.args.learnt in
    let behind : first ≤ id = (let n = c.len.ensures in omega arith) in
    let below = next_below c.args.base.now c.len.result c.args.learnt s.state.arena s.state.trail s.log c.len.ensures (c.requires.searching).learnt in
    (lemmas_more first id (live_of s.state.arena) (live_of c.learn.new.self.state.arena) (e.learns).lits s.lemmas.items c.learn.new.self.lemmas.items e.lemmas
    behind below (e.learns).added (c.requires.searching).lemmas).rising

pub restart_and_reduce-requires-clause-numbers : goal.restart_and_reduce-requires-clause-numbers
restart_and_reduce-requires-clause-numbers g c =
    let s = c.args.self.now in
    let l = c.in_ok-learn.ensures.learns in
    below_more (c.len.result + 1 + c.args.learnt) (live_of s.state.arena) (live_of c.learn.new.self.state.arena) l.lits
    (next_number c.args.base.now c.len.result c.args.learnt c.vars.ensures.valid c.len.ensures (let l = c.requires.limit in omega arith))
    (next_below c.args.base.now c.len.result c.args.learnt s.state.arena s.state.trail s.log c.len.ensures (c.requires.searching).learnt) l.added

pub returns-clause-searching : goal.returns-clause-searching
returns-clause-searching g c =
    let B = c.args.base.now in
    let n = c.args.learnt in
    let old = c.args.self.now in
    let mid = c.learn.new.self in
    let new = c.restart_and_reduce.new.self in
    let s = c.requires.searching in
    let e = c.in_ok-learn.ensures in
    let p = c.in_ok-restart_and_reduce.ensures in
    let first = length B.clauses + 1 in
    let id = c.len.result + 1 + n in
    let is : id ≡ length B.clauses + 1 + n = (let k = c.len.ensures in omega arith) in
    let behind : first ≤ id = omega arith in
    let number = next_number B c.len.result n c.vars.ensures.valid c.len.ensures (let l = c.requires.limit in omega arith) in
    let below = next_below B c.len.result n old.state.arena old.state.trail old.log c.len.ensures s.learnt in
    let h = lemmas_more first id (live_of old.state.arena) (live_of mid.state.arena) (e.learns).lits old.lemmas.items mid.lemmas.items e.lemmas behind below (e.learns).added s.lemmas in
    record {
      steady = p.steady;
      learnt = search_kept B (n + 1) mid.state.arena new.state.arena mid.state.trail new.state.trail mid.log new.log
          (search_learns B n id old.state.arena mid.state.arena old.state.trail mid.state.trail old.log mid.log is number s.learnt e.learns e.vars)
          (p.kept first h) p.vars;
      lemmas = p.lemmas first h;
      noted = noted_units (live_of new.state.arena) mid.units new.units p.units (noted_kept first (live_of mid.state.arena) (live_of new.state.arena) mid.log new.log mid.units.numbers.items (p.kept first h) e.noted);
    }

pub returns-clause-assuming : goal.returns-clause-assuming
returns-clause-assuming g c = λ q h. c.in_ok-restart_and_reduce.ensures.assuming q (c.in_ok-learn.ensures.assuming q h)

pub returns-then-not-branch-clause-searching : goal.returns-then-not-branch-clause-searching
returns-then-not-branch-clause-searching g c =
    let B = c.args.base.now in
    let n = c.args.learnt in
    let old = c.args.self.now in
    let mid = c.learn.new.self in
    let s = c.requires.searching in
    let e = c.in_ok-learn.ensures in
    let first = length B.clauses + 1 in
    let id = c.len.result + 1 + n in
    let is : id ≡ length B.clauses + 1 + n = (let k = c.len.ensures in omega arith) in
    let behind : first ≤ id = omega arith in
    let number = next_number B c.len.result n c.vars.ensures.valid c.len.ensures (let l = c.requires.limit in omega arith) in
    let below = next_below B c.len.result n old.state.arena old.state.trail old.log c.len.ensures s.learnt in
    record {
      steady = e.steady;
      learnt = search_learns B n id old.state.arena mid.state.arena old.state.trail mid.state.trail old.log mid.log is number s.learnt e.learns e.vars;
      lemmas = lemmas_more first id (live_of old.state.arena) (live_of mid.state.arena) (e.learns).lits old.lemmas.items mid.lemmas.items e.lemmas behind below (e.learns).added s.lemmas;
      noted = e.noted;
    }
