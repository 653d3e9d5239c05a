use Rattle.std.proofs.Common.{◌∙◌}
use Rattle.clause_arena.specs.Clauses.{live_of}
use Rattle.cube_solve.proofs.LogLemmas.{lemma_limits, lemma_line}
use Rattle.cube_solve.proofs.search.Search.close.Goals as goal

pub write-requires : goal.write-requires
write-requires g c =
    lemma_line (live_of c.args.self.state.arena) c.args.self.state.trail.vars c.args.id c.in_ok-lemma.lemma.lits.items c.in_ok-lemma.lemma.hints.items
    c.requires.id c.requires.numbers c.requires.limit c.in_ok-lemma.ensures.within c.in_ok-lemma.ensures.rup

pub returns : goal.returns
returns g c = (
  c.in_ok-lemma.lemma.lits.items,
  record {
    hints = c.in_ok-lemma.lemma.hints.items;
    rup = c.in_ok-lemma.ensures.rup;
    within = c.in_ok-lemma.ensures.within;
    few = c.requires.limit;
    limits = lemma_limits (live_of c.args.self.state.arena) c.args.self.state.trail.vars c.args.id c.in_ok-lemma.lemma.lits.items c.in_ok-lemma.lemma.hints.items
        c.requires.id c.requires.numbers c.in_ok-lemma.ensures.within c.in_ok-lemma.ensures.rup;
    text = c.into_packed.ensures ∙ c.in_ok-write.ensures;
  },
  c.in_ok-lemma.ensures.negates,
)
