use Rattle.std.proofs.Common.{◌≡◌, ◌≤◌, vec_len}
use Rattle.icnf.specs.Walk.{next_front}
use Rattle.icnf.proofs.walk.turn.Given as goal

-- what is passed over changes nothing
abbrev pub invariant-loop-place : goal.invariant-loop-place
invariant-loop-place l = (next_front l.path.items ≡ next_front l.initial.path.items) × (vec_len l.path ≤ vec_len l.initial.path)

abbrev pub decreases-loop-place : goal.decreases-loop-place
decreases-loop-place l = vec_len l.path
