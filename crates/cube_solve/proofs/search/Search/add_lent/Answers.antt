use Rattle.clause_arena.specs.Clauses.{live_of}
use Rattle.cube_solve.proofs.UnitClauseLemmas.{noted_added}
use Rattle.cube_solve.proofs.search.Search.add_lent.Goals as goal

pub returns-clause-noted : goal.returns-clause-noted
returns-clause-noted g c =
    noted_added (live_of c.args.self.now.state.arena) (live_of c.add_given.new.self.arena) c.args.id c.args.lits.now c.args.self.now.units.numbers.items c.note.new.self.numbers.items
    c.note.ensures.kept c.note.ensures.noted c.in_ok-add_given.ensures.added c.requires.noted
