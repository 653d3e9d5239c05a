use Rattle.std.proofs.Common.{ℕ, ◌-◌, ◌<◌, ◌≤◌}
use Rattle.log_join.specs.Bits.{Has}
use Rattle.log_join.proofs.bits.has_between.Given as goal

abbrev pub invariant-loop-place : goal.invariant-loop-place
invariant-loop-place l = record {
  low : l.fn.from ≤ l.place;
  none : (p : ℕ) → l.fn.from ≤ p → p < l.place → ¬ (Has l.words p);
}

abbrev pub decreases-loop-place : goal.decreases-loop-place
decreases-loop-place l = l.fn.to - l.place
