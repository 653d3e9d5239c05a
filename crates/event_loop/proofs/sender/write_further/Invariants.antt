use Rattle.std.proofs.Common.{◌≤◌, length}
use Rattle.event_loop.proofs.sender.write_further.Given as goal

abbrev pub invariant-loop-part : goal.invariant-loop-part
invariant-loop-part l = l.at ≤ length l.room
