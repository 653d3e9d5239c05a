use Rattle.std.proofs.Common.{ℕ, ◌-◌, ◌<◌, ◌≤◌, length, get_or}
use Rattle.clause_arena.specs.declared.reference.Ref.{Ref}
use Rattle.watches.specs.inner.MovedRefs.{AreRising}
use Rattle.watches.proofs.moved_refs.find_move.Given as goal

abbrev pub invariant-loop-low : goal.invariant-loop-low
invariant-loop-low l = record {
  in_range : l.high ≤ length l.moves;
  below : AreRising l.moves → (k : ℕ) (d : Ref × Ref) → k < l.low → (get_or l.moves k d).0.number < l.number;
  above : AreRising l.moves → (k : ℕ) (d : Ref × Ref) → l.high ≤ k → k < length l.moves → l.number < (get_or l.moves k d).0.number;
}

abbrev pub decreases-loop-low : goal.decreases-loop-low
decreases-loop-low l = l.high - l.low
