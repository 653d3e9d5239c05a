-- Closed schedules: one coordinator and its workers, of one formula. Each frame that is delivered was sent by one of them, and each
-- restart is under a number that none of them has used.
use Rattle.std.specs.Prelude.{◌≡◌, ℕ, zero, suc, ◌+◌, ◌<◌, List, [], ◌∷◌, ◌++◌, length, map, Contains, Option, Some, None, slice_get, slice_set, ◌⊎◌}
use Rattle.dimacs.specs.logic.Base.{numbers_from}
use Rattle.dimacs.specs.logic.Cnf.{Cnf}
use Rattle.icnf.specs.Leaves.{Cube}
use Rattle.lrat_check.specs.declared.verdict.Reaction.{Reaction}
use Rattle.lrat_check.specs.declared.verdict.Reaction.TheVariants as reaction
use Rattle.lrat_check.specs.declared.verdict.Verdict.{Verdict}
use Rattle.frames.specs.declared.frame.Frame.{Frame}
use Rattle.evidence.specs.Events.{Event, Delivered, Worked, Polled, Given, Reacted, Sent, Ignores}
use Rattle.cube_split.specs.Definitions.{base_with}
use Rattle.cube_split.specs.Pairs.{Definitions}
use Rattle.worker_core.specs.Worker.{WorkerState, WorkerStep, new_worker, restarted_worker}
use Rattle.coordinator_core.specs.Coordinator.{CoordinatorState, CoordinatorStep, IsWorker, new_coordinator, restarted_coordinator}
use Rattle.honest_cluster.specs.declared.event.ClosedEvent.{ClosedEvent}
use Rattle.honest_cluster.specs.declared.event.ClosedEvent.TheVariants.{Deliver, Work, Poll, Restart}

-- The state of a closed cluster.
pub record ClosedState : Type 0 where
  -- the coordinator, which is node 0
  pub coordinator : CoordinatorState
  -- the workers, in order: worker w, counted from 1, is node w
  pub workers : List WorkerState
  -- the frames that polls have returned so far, in order
  pub frames : List Frame
  -- the numbers that nodes have used: sessions and incarnations
  pub used : List ℕ

-- What a closed cluster begins with.
pub record Beginning : Type 0 where
  -- the formula, which all nodes share
  pub formula : Cnf
  -- the definitions of the formula, which all nodes share
  pub definitions : Definitions
  -- the tree of the coordinator, by its cubes
  pub tree : List Cube
  -- the most lemmas that a worker learns under a cube
  pub limit : ℕ
  -- the number of workers
  pub workers : ℕ

-- `first_worker F d w`: worker w of the formula F with the definitions d at the beginning, in incarnation w + 1
abbrev pub first_worker : Cnf → Definitions → ℕ → WorkerState
first_worker F d w = record (new_worker F w (w + 1)) { wanted = d.wanted; base = base_with F d.pairs }

-- the cluster at its beginning: the coordinator has session 1, the workers are numbered from 1, and no frame was sent
abbrev pub new_closed : Beginning → ClosedState
new_closed b = record {
  coordinator = record (new_coordinator b.formula b.tree b.limit b.workers 1) { definitions = b.definitions };
  workers = map (first_worker b.formula b.definitions) (numbers_from 1 b.workers);
  frames = [];
  used = numbers_from 1 (b.workers + 1);
}

-- the state s with this coordinator
abbrev pub with_coordinator : ClosedState → CoordinatorState → ClosedState
with_coordinator s c = record s { coordinator = c }

-- `with_worker s place w`: the state s with w as the worker of this index, counted from 0
abbrev pub with_worker : ClosedState → ℕ → WorkerState → ClosedState
with_worker s place w = record s { workers = slice_set s.workers place w }

-- the state s with this frame appended to the list of frames
abbrev pub with_frame : ClosedState → Frame → ClosedState
with_frame s frame = record s { frames = s.frames ++ frame ∷ [] }

-- the state s with this number appended to the used ones
abbrev pub with_number : ClosedState → ℕ → ClosedState
with_number s number = record s { used = s.used ++ number ∷ [] }

-- there is no node of this number
abbrev pub IsNoNode : ClosedState → ℕ → Type 0
IsNoNode s node = length s.workers < node

-- the verdict that a worker holds; none if there is no worker
abbrev pub held_by : Option WorkerState → Option Verdict
held_by (Some w) = Some w.verdict
held_by None = None

-- `verdict_at s node`: the verdict that the node holds; none if there is no such node
abbrev pub verdict_at : ClosedState → ℕ → Option Verdict
verdict_at s zero = Some s.coordinator.verdict
verdict_at s (suc place) = held_by (slice_get s.workers place)

-- `StepsAt s node event given new`: an event at the node leads from s to `new`: the node makes a step of its own rules, and the other nodes
-- are unchanged; `given` is the node's reaction, or the frame that it sends
abbrev pub StepsAt : ClosedState → ℕ → Event → Given → ClosedState → Type 0
StepsAt s zero event given new = (c : CoordinatorState) × CoordinatorStep s.coordinator event given c × (new ≡ with_coordinator s c)
StepsAt s (suc place) event given new =
    (w v : WorkerState) × (slice_get s.workers place ≡ Some w) × WorkerStep w event given v × (new ≡ with_worker s place v)

-- The frame of this index in the list of frames, counted from 0, is delivered to a node.
pub data HappensDeliver (s : ClosedState) (node place : ℕ) (answer : Reaction) (new : ClosedState) : Type 0 where
  -- there is no such node or no such frame
  is_ignored : IsNoNode s node ⊎ (slice_get s.frames place ≡ None) → Ignores s answer new → HappensDeliver s node place answer new
  -- the node reacts to the frame
  delivers : (frame : Frame) → slice_get s.frames place ≡ Some frame → StepsAt s node (Delivered frame) (Reacted answer) new → HappensDeliver s node place answer new

-- A worker is to search.
pub data HappensWork (s : ClosedState) (node : ℕ) (answer : Reaction) (new : ClosedState) : Type 0 where
  -- the node is the coordinator, or there is no such node
  is_ignored : (node ≡ 0) ⊎ IsNoNode s node → Ignores s answer new → HappensWork s node answer new
  -- the worker reacts: it searches if it has a task
  works : StepsAt s node Worked (Reacted answer) new → HappensWork s node answer new

-- `IsNoPoll s node worker`: the node cannot be polled for this worker: there is no such node, or it is the coordinator and has no such
-- worker
abbrev pub IsNoPoll : ClosedState → ℕ → ℕ → Type 0
IsNoPoll s node worker = IsNoNode s node ⊎ ((node ≡ 0) × ¬ (IsWorker s.coordinator worker))

-- A node is polled for its next frame, the coordinator for the frame to this worker, and the frame is appended to the list.
pub data HappensPoll (s : ClosedState) (node worker : ℕ) (answer : Reaction) (new : ClosedState) : Type 0 where
  -- the node cannot be polled
  is_ignored : IsNoPoll s node worker → Ignores s answer new → HappensPoll s node worker answer new
  -- the node returns a frame
  sends : (frame : Frame) (after : ClosedState) → StepsAt s node (Polled worker) (Sent frame) after
      → answer ≡ reaction.Taken → new ≡ with_frame after frame → HappensPoll s node worker answer new
  -- memory for the frame, or for its entry in the list, was refused
  no_memory : ¬ (IsNoPoll s node worker) → answer ≡ reaction.NoMemory → new ≡ s → HappensPoll s node worker answer new

-- `RestartsAt s node number new`: the node is restarted under this number, and the other nodes are unchanged
abbrev pub RestartsAt : ClosedState → ℕ → ℕ → ClosedState → Type 0
RestartsAt s zero number new = new ≡ with_coordinator s (restarted_coordinator s.coordinator number)
RestartsAt s (suc place) number new = (w : WorkerState) × (slice_get s.workers place ≡ Some w) × (new ≡ with_worker s place (restarted_worker w number))

-- A node is restarted under a number that no node has used.
pub data HappensRestart (s : ClosedState) (node number : ℕ) (answer : Reaction) (new : ClosedState) : Type 0 where
  -- there is no such node, or the number was used
  is_ignored : IsNoNode s node ⊎ Contains s.used number → Ignores s answer new → HappensRestart s node number answer new
  -- the node is restarted, and the number is appended to the used ones
  anew : (after : ClosedState) → ¬ (Contains s.used number) → RestartsAt s node number after
      → answer ≡ reaction.Taken → new ≡ with_number after number → HappensRestart s node number answer new
  -- memory for the node, or for its number in the list, was refused
  no_memory : ¬ (IsNoNode s node) → ¬ (Contains s.used number) → answer ≡ reaction.NoMemory → new ≡ s → HappensRestart s node number answer new

-- `HappensClosed s event answer new`: the event may lead the cluster from s to `new`, with this reaction
abbrev pub HappensClosed : ClosedState → ClosedEvent → Reaction → ClosedState → Type 0
HappensClosed s (Deliver node place) answer new = HappensDeliver s node place answer new
HappensClosed s (Work node) answer new = HappensWork s node answer new
HappensClosed s (Poll node worker) answer new = HappensPoll s node worker answer new
HappensClosed s (Restart node number) answer new = HappensRestart s node number answer new

-- `RunsClosed s events new`: the events, one after the other, each with some reaction, may lead the cluster from s to `new`
abbrev pub RunsClosed : ClosedState → List ClosedEvent → ClosedState → Type 0
RunsClosed s [] new = new ≡ s
RunsClosed s (event ∷ events) new = (answer : Reaction) × (mid : ClosedState) × HappensClosed s event answer mid × RunsClosed mid events new
