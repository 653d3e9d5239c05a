use Rattle.std.proofs.Common.{◌≡◌, ◌≤◌, length, take}
use Rattle.std.specs.List.{All}
use Rattle.conflict_analysis.proofs.seen.clear.Given as goal

abbrev pub invariant-loop-i : goal.invariant-loop-i
invariant-loop-i l = (length l.stamps.items ≡ length l.fn.stamps.items) × All (λ s. s ≤ 0) (take l.i l.stamps.items)
