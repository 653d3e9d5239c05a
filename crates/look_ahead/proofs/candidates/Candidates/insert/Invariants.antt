use Rattle.std.proofs.Common.{◌≤◌, vec_len}
use Rattle.look_ahead.proofs.candidates.Candidates.insert.Given as goal

abbrev pub invariant-loop-place : goal.invariant-loop-place
invariant-loop-place l = l.place ≤ vec_len l.self.ranked

abbrev pub decreases-loop-place : goal.decreases-loop-place
decreases-loop-place l = l.place
