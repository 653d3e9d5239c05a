use Rattle.std.proofs.Common.{inr}
use Rattle.clause_arena.specs.Clauses.{live_of}
use Rattle.cube_solve.proofs.LogLemmas.{hints_numbers}
use Rattle.cube_solve.proofs.SearchLemmas.{closes_clause}
use Rattle.cube_solve.proofs.session.Session.refute_clause.Goals as goal

pub returns : goal.returns
returns g c = λ q h.
    let s = c.args.self.now.search.state in
    let e = c.in_ok-lemma.ensures in
    record {
      follows = inr e.rup;
      negates = closes_clause q s.trail.entries s.assumed c.args.number c.in_ok-lemma.lemma.lits.items h c.requires.assumed e.negates;
      within = e.within;
      numbers = hints_numbers (live_of s.arena) c.args.self.now.top c.in_ok-lemma.lemma.lits.items c.in_ok-lemma.lemma.hints.items (c.requires.ready).bounded (c.requires.ready).below e.rup;
    }
