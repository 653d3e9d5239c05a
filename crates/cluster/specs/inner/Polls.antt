-- Polls of one node of an open cluster.
use Rattle.std.specs.Prelude.{ℕ, Result, Ok, Err}
use Rattle.lrat_check.specs.declared.verdict.Reaction.{Reaction}
use Rattle.lrat_check.specs.declared.verdict.Reaction.TheVariants as reaction
use Rattle.frames.specs.declared.frame.Frame.{Frame}
use Rattle.coordinator_core.specs.Coordinator.{IsWorker}
use Rattle.cluster.specs.declared.node.Node.{Node}
use Rattle.cluster.specs.declared.node.Node.TheVariants.{Worker, Coordinator}

-- the node can be polled for a frame to this worker: it is a worker, or a coordinator that has a worker of this number
abbrev pub MaySendTo : Node → ℕ → Type 0
MaySendTo (Worker w) worker = Unit {0}
MaySendTo (Coordinator c) worker = IsWorker c worker

-- the reaction to a poll with this result, whose frame is dropped
abbrev pub answer_to : {E : Type 0} → Result Frame E → Reaction
answer_to (Ok frame) = reaction.Taken
answer_to (Err fault) = reaction.NoMemory
