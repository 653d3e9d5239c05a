use Rattle.std.proofs.Common.{◌<◌, ◌≤◌, drop, vec_len}
use Rattle.std.specs.List.{All}
use Rattle.cube_split.proofs.frequent_pairs.insert_lowest.Given as goal

-- what stands from the place on is above the number
abbrev pub invariant-loop-place : goal.invariant-loop-place
invariant-loop-place l = record { inside : l.place ≤ vec_len l.best; above : All (λ x. l.number < x) (drop l.place l.best.items) }

abbrev pub decreases-loop-place : goal.decreases-loop-place
decreases-loop-place l = l.place
