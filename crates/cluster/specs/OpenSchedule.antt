-- Open schedules: any list of events, with any bytes delivered to any node.
use Rattle.std.specs.Prelude.{◌≡◌, ◌⊎◌, ℕ, List, [], ◌∷◌, MatchOption, slice_get, slice_set}
use Rattle.lrat_check.specs.declared.verdict.Reaction.{Reaction}
use Rattle.lrat_check.specs.declared.verdict.Reaction.TheVariants as reaction
use Rattle.dimacs.specs.logic.Cnf.{Cnf}
use Rattle.frames.specs.MemoryNeeds.{MayNeedMemory}
use Rattle.frames.specs.Stream.{BeginsWith, BeginsNoFrame}
use Rattle.frames.specs.declared.frame.Frame.{Frame}
use Rattle.evidence.specs.Events.{Event, Delivered, Worked, Polled, Given, Reacted, Sent, Ignores}
use Rattle.worker_core.specs.AddedClauses.{ExtendsWorker}
use Rattle.worker_core.specs.Worker.{WorkerState, WorkerStep, restarted_worker}
use Rattle.coordinator_core.specs.AddedClauses.{ExtendsCoordinator}
use Rattle.coordinator_core.specs.Coordinator.{CoordinatorState, CoordinatorStep, IsWorker, restarted_coordinator}
use Rattle.cluster.specs.declared.event.OpenEvent.{OpenEvent}
use Rattle.cluster.specs.declared.event.OpenEvent.TheVariants.{Deliver, Work, Poll, Restart, Extend}
use Rattle.cluster.specs.declared.node.Node.{Node}
use Rattle.cluster.specs.declared.node.Node.TheVariants.{Worker, Coordinator}

-- `NodeStep old event given new`: a step by the node's own rules, as a worker or a coordinator, may lead it from `old` to `new` at this
-- event; `given` is its reaction, or the frame that it sends
abbrev pub NodeStep : Node → Event → Given → Node → Type 0
NodeStep (Worker w) event given new = (v : WorkerState) × WorkerStep w event given v × (new ≡ Worker v)
NodeStep (Coordinator c) event given new = (d : CoordinatorState) × CoordinatorStep c event given d × (new ≡ Coordinator d)

-- Any bytes are delivered to a node, which reacts with this answer.
pub data Delivers (old : Node) (bytes : List ℕ) (answer : Reaction) (new : Node) : Type 0 where
  -- the bytes begin with a right frame, which is delivered; the bytes after it are not read
  begins : (first : Frame) → BeginsWith bytes first → NodeStep old (Delivered first) (Reacted answer) new → Delivers old bytes answer new
  -- the bytes begin with no right frame, and are ignored
  no_frame : BeginsNoFrame bytes → Ignores old answer new → Delivers old bytes answer new
  -- memory was refused: the bytes begin with a header and its complete payload, which has literals or a chunk
  no_memory : MayNeedMemory bytes → answer ≡ reaction.NoMemory → new ≡ old → Delivers old bytes answer new

-- `Works old answer new`: a worker is to search; a coordinator ignores that
abbrev pub Works : Node → Reaction → Node → Type 0
Works (Worker w) answer new = NodeStep (Worker w) Worked (Reacted answer) new
Works (Coordinator c) answer new = Ignores (Coordinator c) answer new

-- the node is a coordinator that has no worker of this number
abbrev pub HasNoWorker : Node → ℕ → Type 0
HasNoWorker (Worker w) worker = ⊥
HasNoWorker (Coordinator c) worker = ¬ (IsWorker c worker)

-- A node is polled for a frame to a worker. The frame is dropped: an open schedule delivers any bytes, whether they were sent or not.
pub data Polls (old : Node) (worker : ℕ) (answer : Reaction) (new : Node) : Type 0 where
  -- the node returns a frame
  sends : (sent : Frame) → NodeStep old (Polled worker) (Sent sent) new → answer ≡ reaction.Taken → Polls old worker answer new
  -- the node is a coordinator that has no such worker
  is_ignored : HasNoWorker old worker → Ignores old answer new → Polls old worker answer new
  -- memory for the frame was refused
  no_memory : NodeStep old (Polled worker) (Reacted reaction.NoMemory) new → answer ≡ reaction.NoMemory → Polls old worker answer new

-- the node as newly made from its formula, under this number: a worker's incarnation, or a coordinator's session
abbrev pub restarted : Node → ℕ → Node
restarted (Worker w) number = Worker (restarted_worker w number)
restarted (Coordinator c) number = Coordinator (restarted_coordinator c number)

-- A node is restarted under this number.
pub data Restarts (old : Node) (number : ℕ) (answer : Reaction) (new : Node) : Type 0 where
  -- the node is as newly made from its formula
  anew : answer ≡ reaction.Taken → new ≡ restarted old number → Restarts old number answer new
  -- memory for a coordinator's tables was refused
  no_memory : (c : CoordinatorState) → old ≡ Coordinator c → answer ≡ reaction.NoMemory → new ≡ old → Restarts old number answer new

-- `Extends old x number answer new`: the clauses of x are to be added to the node's formula, and the node is to be restarted under this
-- number
abbrev pub Extends : Node → Cnf → ℕ → Reaction → Node → Type 0
Extends (Worker w) x number answer new = (v : WorkerState) × ExtendsWorker w x number answer v × (new ≡ Worker v)
Extends (Coordinator c) x number answer new = (d : CoordinatorState) × ExtendsCoordinator c x number answer d × (new ≡ Coordinator d)

-- the number of the node at which an event happens, counted from 0
abbrev pub node_of : OpenEvent → ℕ
node_of (Deliver node bytes) = node
node_of (Work node) = node
node_of (Poll node worker) = node
node_of (Restart node number) = node
node_of (Extend node x number) = node

-- `Reacts event old answer new`: the event may lead its node from `old` to `new`, with this reaction
abbrev pub Reacts : OpenEvent → Node → Reaction → Node → Type 0
Reacts (Deliver node bytes) old answer new = Delivers old bytes answer new
Reacts (Work node) old answer new = Works old answer new
Reacts (Poll node worker) old answer new = Polls old worker answer new
Reacts (Restart node number) old answer new = Restarts old number answer new
Reacts (Extend node x number) old answer new = Extends old x number answer new

-- `Happens old event answer new`: the event may lead the nodes from `old` to `new`, with this reaction: its node reacts, and the others are
-- unchanged; if there is no such node, the event is ignored
abbrev pub Happens : List Node → OpenEvent → Reaction → List Node → Type 0
Happens old event answer new =
    MatchOption (slice_get old (node_of event))
    (Ignores old answer new)
    (λ n. (m : Node) × Reacts event n answer m × (new ≡ slice_set old (node_of event) m))

-- `ChangesNothing answer old new`: if the reaction is `Ignored` or `NoMemory`, the nodes are unchanged
abbrev pub ChangesNothing : Reaction → List Node → List Node → Type 0
ChangesNothing answer old new = (answer ≡ reaction.Ignored) ⊎ (answer ≡ reaction.NoMemory) → new ≡ old

-- `Runs old events new`: the events, one after the other, each with some reaction, may lead the nodes from `old` to `new`
abbrev pub Runs : List Node → List OpenEvent → List Node → Type 0
Runs old [] new = new ≡ old
Runs old (event ∷ events) new = (answer : Reaction) × (mid : List Node) × Happens old event answer mid × Runs mid events new
