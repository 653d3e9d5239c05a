use Rattle.std.proofs.Common.{◌+◌, length, subst, sym}
use Rattle.dimacs.specs.logic.ClauseMap.{live_in, map_of}
use Rattle.clause_arena.specs.Clauses.{live_of}
use Rattle.cube_solve.specs.inner.Reduction.{AreLemmas}
use Rattle.cube_solve.proofs.ReductionLemmas.{lemmas_none}
use Rattle.cube_solve.proofs.UnitClauseLemmas.{noted_among}
use Rattle.cube_solve.proofs.SearchLemmas.{search_begins}
use Rattle.cube_solve.proofs.search.Search.new.Goals as goal

pub returns-clause-searching : goal.returns-clause-searching
returns-clause-searching g c =
    let B = c.args.base.now in
    let s = c.in_ok-state.state in
    let e = c.in_ok-state.ensures in
    record {
      steady = e.steady;
      learnt = search_begins B s.arena s.trail c.new-4.result e.linked e.vars c.new-4.ensures;
      lemmas = subst (AreLemmas (length B.clauses + 1) (live_of s.arena)) (sym c.new-2.ensures.items) (lemmas_none (length B.clauses + 1) (live_of s.arena));
      noted = noted_among (live_in (map_of B)) (live_of s.arena) _ (e.linked).back c.in_ok-new.ensures;
    }

pub returns-clause-assuming : goal.returns-clause-assuming
returns-clause-assuming g c = c.in_ok-state.ensures.assuming
