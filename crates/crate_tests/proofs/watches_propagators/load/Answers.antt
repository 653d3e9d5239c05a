use Rattle.std.proofs.Common.{ℕ, ◌+◌, ◌<◌, sym, subst, arith, List}
use Rattle.std.specs.List.{All, Contains}
use Rattle.watches.proofs.NumberLemmas.{all_next, there_next}
use Rattle.crate_tests.proofs.watches_propagators.load.Goals as goal

pub loop-first-preserved : goal.loop-first-preserved
loop-first-preserved g c = record {
  ready = c.learn_pair.ensures.ready;
  numbered = omega (arith, c.loop-first.invariant.numbered);
  below = subst (All (λ n. n < c.loop-first.number + 1)) (sym c.in_ok-learn_pair.ensures.ok) (all_next (g.P.Propagator.attached c.loop-first.propagator) c.loop-first.number c.loop-first.invariant.below);
  there = subst (λ (xs : List ℕ). (n : ℕ) → 0 < n → n < c.loop-first.number + 1 → Contains xs n) (sym c.in_ok-learn_pair.ensures.ok) (there_next (g.P.Propagator.attached c.loop-first.propagator) c.loop-first.number c.loop-first.invariant.there);
}
