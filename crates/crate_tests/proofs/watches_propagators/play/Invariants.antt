use Rattle.crate_tests.proofs.watches_propagators.play.Given as goal

abbrev pub invariant-loop-turn : goal.invariant-loop-turn
invariant-loop-turn g l = g.P.Propagator.is_ready l.propagator l.arena l.trail
