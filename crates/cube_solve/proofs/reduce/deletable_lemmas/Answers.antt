use Rattle.clause_arena.specs.Clauses.{live_of}
use Rattle.cube_solve.specs.inner.Reduction.{IsDeletable}
use Rattle.cube_solve.proofs.ReductionLemmas.{chosen_more}
use Rattle.cube_solve.proofs.reduce.deletable_lemmas.Goals as goal

pub loop-number-preserved : goal.loop-number-preserved
loop-number-preserved c =
    chosen_more (IsDeletable (live_of c.args.arena.now) c.args.trail.now.entries) c.args.lemmas.now c.loop-number.number-index c.requires.rising c.loop-number-test.true c.loop-number.spare.items c.push_deletable.new.spare.items
    c.in_ok-push_deletable.ensures c.loop-number.invariant
