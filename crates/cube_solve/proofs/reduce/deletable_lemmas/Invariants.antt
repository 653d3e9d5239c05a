use Rattle.clause_arena.specs.Clauses.{live_of}
use Rattle.cube_solve.specs.inner.Reduction.{IsDeletable}
use Rattle.cube_solve.proofs.ReductionLemmas.{AreChosen}
use Rattle.cube_solve.proofs.reduce.deletable_lemmas.Given as goal

abbrev pub invariant-loop-number : goal.invariant-loop-number
invariant-loop-number l = AreChosen (IsDeletable (live_of l.arena) l.trail.entries) l.lemmas l.number-index l.spare.items
