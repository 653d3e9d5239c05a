use Rattle.std.proofs.Common.{ℕ, ◌≤◌, ◌-◌, length}
use Rattle.std.specs.List.{All}
use Rattle.conflict_analysis.proofs.seen.make_room.Given as goal

abbrev pub invariant-loop-stamps : goal.invariant-loop-stamps
invariant-loop-stamps l = (n : ℕ) → All (λ s. s ≤ n) l.fn.stamps.items → All (λ s. s ≤ n) l.stamps.items

abbrev pub decreases-loop-stamps : goal.decreases-loop-stamps
decreases-loop-stamps l = l.places - length l.stamps.items
