use Rattle.std.proofs.Common.{drop}
use Rattle.honest_cluster.specs.ClosedSchedule.{ClosedState, RunsClosed}
use Rattle.cluster.specs.Members.{state_of}
use Rattle.cluster.proofs.closed.ClosedCluster.run.Given as goal

-- a state that the remaining events lead to from here is one that all events lead to from the beginning
abbrev pub invariant-loop-event : goal.invariant-loop-event
invariant-loop-event l = (end : ClosedState) → RunsClosed (state_of l.self-inside.schedule) (drop l.event-index l.events) end → RunsClosed l.fn.self l.events end
