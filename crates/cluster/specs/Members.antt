-- The state of a closed cluster, put together from what the code keeps.
use Rattle.std.specs.Prelude.{ℕ, List}
use Rattle.frames.specs.declared.frame.Frame.{Frame}
use Rattle.honest_cluster.specs.ClosedSchedule.{ClosedState}
use Rattle.cluster.specs.declared.members.Members.{Members}
use Rattle.cluster.specs.declared.schedule.Schedule.{Schedule}

-- `closed_of members frames used`: the state of a closed cluster with these nodes, these frames that polls have returned, and these used
-- numbers
abbrev pub closed_of : Members → List Frame → List ℕ → ClosedState
closed_of m frames used = record { coordinator = m.coordinator; workers = m.workers.items; frames = frames; used = used }

-- the state of a closed cluster that a schedule of the code stands for
abbrev pub state_of : Schedule → ClosedState
state_of s = closed_of s.members s.frames.items s.used.items
