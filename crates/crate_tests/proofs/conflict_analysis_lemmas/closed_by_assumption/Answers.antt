use Rattle.std.proofs.Common.{[], sym, subst}
use Rattle.clause_arena.specs.Clauses.{live_of}
use Rattle.conflict_analysis.specs.BuiltTrails.{AreBuilt, AreInside}
use Rattle.crate_tests.proofs.SmallConflict.{small_built}
use Rattle.crate_tests.proofs.conflict_analysis_lemmas.closed_by_assumption.Goals as goal

pub close_cube-requires-clause-built : goal.close_cube-requires-clause-built
close_cube-requires-clause-built c = subst (AreBuilt (live_of c.in_ok-arena.arena) []) (sym c.in_ok-trail.ensures.entries) (small_built c.in_ok-arena.arena c.in_ok-arena.ensures.first)

pub close_cube-requires-clause-inside : goal.close_cube-requires-clause-inside
close_cube-requires-clause-inside c = subst (AreInside (live_of c.in_ok-arena.arena)) (sym c.in_ok-trail.ensures.vars) c.in_ok-arena.ensures.inside
