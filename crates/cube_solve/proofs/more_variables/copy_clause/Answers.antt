use Rattle.std.proofs.lemmas.Result.{on_ok_weaker}
use Rattle.clause_arena.specs.Clauses.{live_of}
use Rattle.cube_solve.proofs.CopiedClauseLemmas.{found_live, moved_more, moved_past}
use Rattle.cube_solve.proofs.more_variables.copy_clause.Goals as goal

pub returns-in-Some-clause-moved : goal.returns-in-Some-clause-moved
returns-in-Some-clause-moved g c = on_ok_weaker c.add_given.result
    (λ added h.
    let m = c.args.arena.now in
    let some = c.in-Some.ensures.some in
    moved_more m c.args.id (live_of c.args.search.now.state.arena) (live_of c.add_given.new.self.state.arena) h (some.1).0 c.clause.result.now (found_live m c.in-Some.at c.args.id some.0 some.1)
    (c.clause.ensures.literals (some.1).0 (some.1).1) added)
    c.add_given.ensures.added

pub returns-in-None-clause-moved : goal.returns-in-None-clause-moved
returns-in-None-clause-moved g c = λ h. moved_past c.args.arena.now c.args.id (live_of c.args.search.now.state.arena) h c.in-None.ensures.none
