use Rattle.std.proofs.Common.{◌+◌, refl}
use Rattle.clause_arena.specs.Clauses.{live_of}
use Rattle.cube_solve.proofs.LogLemmas.{lemma_limits, lemma_line}
use Rattle.cube_solve.proofs.StepwiseLemmas.{below, few_vars, number}
use Rattle.cube_solve.proofs.stepwise.Stepwise.close.Goals as goal

pub write-requires : goal.write-requires
write-requires g c =
    let s = c.args.self.now in
    let (B, q, limit, before, h) = c.requires.under in
    let r = g.P.Propagator.is_ready in
    let a = g.P.Propagator.attached in
    lemma_line (live_of s.search.state.arena) s.search.state.trail.vars (s.clauses + 1 + s.learnt) c.in_ok-lemma.lemma.lits.items c.in_ok-lemma.lemma.hints.items
    (number r a B q limit before s h) (below r a B q limit before s h) (few_vars r a B q limit before s h) c.in_ok-lemma.ensures.within c.in_ok-lemma.ensures.rup

pub returns : goal.returns
returns g c =
    let s = c.args.self.now in
    let (B, q, limit, before, h) = c.requires.under in
    let r = g.P.Propagator.is_ready in
    let a = g.P.Propagator.attached in
    record {
      lits = c.in_ok-lemma.lemma.lits.items;
      written = record {
        hints = c.in_ok-lemma.lemma.hints.items;
        rup = c.in_ok-lemma.ensures.rup;
        within = c.in_ok-lemma.ensures.within;
        few = few_vars r a B q limit before s h;
        limits = lemma_limits (live_of s.search.state.arena) s.search.state.trail.vars (s.clauses + 1 + s.learnt) c.in_ok-lemma.lemma.lits.items c.in_ok-lemma.lemma.hints.items
            (number r a B q limit before s h) (below r a B q limit before s h) c.in_ok-lemma.ensures.within c.in_ok-lemma.ensures.rup;
        text = c.in_ok-write.ensures;
      };
      negates = c.in_ok-lemma.ensures.negates;
      same = refl;
    }
