-- What calls of one node of a closed cluster do to the cluster.
use Rattle.std.specs.Prelude.{◌≡◌, ℕ, ◌≤◌, List, length, map}
use Rattle.dimacs.specs.logic.Base.{numbers_from}
use Rattle.dimacs.specs.logic.Cnf.{Cnf}
use Rattle.icnf.specs.Leaves.{Cube}
use Rattle.frames.specs.declared.frame.Frame.{Frame}
use Rattle.cube_split.specs.Pairs.{AreOf, Definitions}
use Rattle.evidence.specs.Events.{Event, Given}
use Rattle.worker_core.specs.Worker.{WorkerState}
use Rattle.coordinator_core.specs.Coordinator.{IsWorker, new_coordinator}
use Rattle.honest_cluster.specs.ClosedSchedule.{StepsAt, RestartsAt, first_worker}
use Rattle.cluster.specs.declared.members.Members.{Members}
use Rattle.cluster.specs.Members.{closed_of}

-- `new_workers F d n`: workers 1 to n over the base of F with these definitions; the incarnation of worker w is w + 1
abbrev pub new_workers : Cnf → Definitions → ℕ → List WorkerState
new_workers F d n = map (first_worker F d) (numbers_from 1 n)

-- new members: a coordinator in session 1 and `count` workers, with `wanted` definitions of the formula, or fewer if no further pair can be
-- defined
pub record AreNew (F : Cnf) (tree : List Cube) (limit count wanted : ℕ) (m : Members) : Type 0 where
  pub definitions : Definitions
  pub defined : AreOf F definitions
  pub as_wanted : definitions.wanted ≡ wanted
  pub coordinator : m.coordinator ≡ record (new_coordinator F tree limit count 1) { definitions = definitions }
  pub workers : m.workers.items ≡ new_workers F definitions count

-- there is a node of this number: 0 for the coordinator, and w for worker w
abbrev pub IsMember : Members → ℕ → Type 0
IsMember m node = node ≤ length m.workers.items

-- `MemberSteps old node event given new`: an event at the node leads the members from `old` to `new`, for all frames and used numbers of
-- the cluster; `given` is the node's reaction, or the frame that it sends
abbrev pub MemberSteps : Members → ℕ → Event → Given → Members → Type 0
MemberSteps old node event given new = (frames : List Frame) (used : List ℕ) → StepsAt (closed_of old frames used) node event given (closed_of new frames used)

-- `MemberRestarts old node number new`: a restart of the node under this number leads the members from `old` to `new`, for all frames and
-- used numbers of the cluster
abbrev pub MemberRestarts : Members → ℕ → ℕ → Members → Type 0
MemberRestarts old node number new = (frames : List Frame) (used : List ℕ) → RestartsAt (closed_of old frames used) node number (closed_of new frames used)

-- the node exists, and if it is the coordinator, it has a worker of this number
pub record MayBePolled (m : Members) (node worker : ℕ) : Type 0 where
  pub member : IsMember m node
  pub known : node ≡ 0 → IsWorker m.coordinator worker
