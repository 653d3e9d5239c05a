use Rattle.std.proofs.Common.{◌≤◌, ◌≡◌, length}
use Rattle.self_test.proofs.random_runs.peer.Peer.fetch.Given as goal

abbrev pub invariant-loop-place : goal.invariant-loop-place
invariant-loop-place l = (l.count ≤ l.place) × (length l.room ≡ l.place-end)
