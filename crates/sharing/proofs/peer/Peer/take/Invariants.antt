use Rattle.std.proofs.Common.{◌-◌, ◌≤◌, length}
use Rattle.sharing.proofs.peer.Peer.take.Given as goal

abbrev pub invariant-lines : goal.invariant-lines
invariant-lines l = l.from ≤ length l.bytes

abbrev pub decreases-lines : goal.decreases-lines
decreases-lines l = length l.bytes - l.from
