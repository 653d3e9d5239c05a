use Rattle.std.proofs.Common.{◌≡◌, ◌-◌, ◌≤◌, true, length, drop}
use Rattle.watches.specs.Trails.{holds}
use Rattle.conflict_analysis.proofs.final_analysis.place_of.Given as goal

abbrev pub invariant-loop-literal : goal.invariant-loop-literal
invariant-loop-literal l = (l.i ≤ length l.entries) × (holds (drop l.i l.entries) l.literal ≡ true)

abbrev pub decreases-loop-literal : goal.decreases-loop-literal
decreases-loop-literal l = length l.entries - l.i
