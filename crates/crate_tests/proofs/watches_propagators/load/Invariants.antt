use Rattle.std.proofs.Common.{◌≡◌, ℕ, ◌+◌, ◌<◌}
use Rattle.std.specs.List.{All, Contains}
use Rattle.crate_tests.proofs.watches_propagators.load.Given as goal

abbrev pub invariant-loop-first : goal.invariant-loop-first
invariant-loop-first g l = record {
  ready : g.P.Propagator.is_ready l.propagator l.arena l.trail;
  numbered : l.number ≡ l.first-index + 1;
  below : All (λ n. n < l.number) (g.P.Propagator.attached l.propagator);
  there : (n : ℕ) → 0 < n → n < l.number → Contains (g.P.Propagator.attached l.propagator) n;
}
