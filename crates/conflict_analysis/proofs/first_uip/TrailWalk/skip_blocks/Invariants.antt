use Rattle.std.proofs.Common.{◌≡◌, ℕ, ◌*◌, ◌/◌, ◌<◌, ◌≤◌, false}
use Rattle.conflict_analysis.specs.inner.Seen.{met}
use Rattle.conflict_analysis.proofs.first_uip.TrailWalk.skip_blocks.Given as goal

-- the blocks after this one are not marked
abbrev pub invariant-loop-block : goal.invariant-loop-block
invariant-loop-block l = (8 * l.block ≤ l.end) × ((k : ℕ) → 8 * l.block ≤ k → k < l.end → met l.self.blocks (k / 8) ≡ false)

abbrev pub decreases-loop-block : goal.decreases-loop-block
decreases-loop-block l = l.block
