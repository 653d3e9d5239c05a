-- The rules of a coordinator: it gives the leaves of a tree to workers, checks the evidence that they send, and sends the verdict to them.
use Rattle.std.specs.Prelude.{◌≡◌, ◌≢◌, ℕ, zero, suc, ◌+◌, ◌-◌, ◌<◌, ◌≤◌, ◌^◌, nat_lt, Bool, true, false, List, [], length, map, take, drop, Option, Some, None, All, slice_index_or, slice_set, position, replicate, ◌⊎◌}
use Rattle.dimacs.specs.logic.Base.{pure_literals}
use Rattle.dimacs.specs.logic.Cnf.{Cnf}
use Rattle.icnf.specs.Leaves.{Cube, branched}
use Rattle.lrat_text.specs.Log.{Closes}
use Rattle.lrat_check.specs.declared.verdict.Verdict.{Verdict}
use Rattle.lrat_check.specs.declared.verdict.Verdict.TheVariants.{Nothing, Model, Proof}
use Rattle.lrat_check.specs.declared.verdict.Reaction.{Reaction}
use Rattle.lrat_check.specs.declared.verdict.Reaction.TheVariants as reaction
use Rattle.frames.specs.Answers.{answer_of}
use Rattle.frames.specs.declared.answer.Answer.TheVariants as answers
use Rattle.frames.specs.declared.answer.Finding.{Finding}
use Rattle.frames.specs.declared.answer.Ending.{Ending}
use Rattle.frames.specs.declared.answer.Ending.TheVariants as told
use Rattle.frames.specs.declared.frame.Attempt.{Attempt}
use Rattle.frames.specs.declared.frame.Frame.{Frame}
use Rattle.frames.specs.declared.frame.Frame.TheVariants.{Task, Done, Fetch, Piece, Verdict as VerdictFrame, Want, Part, Idle, Rest}
use Rattle.cube_split.specs.ChoiceWithDefinitions.{Chooses}
use Rattle.cube_split.specs.Definitions.{Opening, base_with}
use Rattle.cube_split.specs.Pairs.{Definitions, no_definitions}
use Rattle.proof_join.specs.Definitions.{JoinedOver}
use Rattle.evidence.specs.Evidence.{announced, with_bytes, IsComplete, ComeNext, IsRightEvidence, IsWrongEvidence, HasWrongLength, answer_in, bytes_in, finding_in}
use Rattle.evidence.specs.Events.{chunk, Event, Delivered, Worked, Polled, Lost, Given, Reacted, Sent, Silent, Ignores, FrameNeedsMemory}
use Rattle.evidence.specs.Jobs.{attempt_at}
use Rattle.evidence.specs.declared.job.JobName.{JobName}
use Rattle.coordinator_core.specs.Splits.{doubled, shifted_job}
use Rattle.coordinator_core.specs.declared.job_state.Fixed.{Fixed}
use Rattle.coordinator_core.specs.declared.job_state.Job.{Job}
use Rattle.coordinator_core.specs.declared.job_state.LeafState.{LeafState}
use Rattle.coordinator_core.specs.declared.job_state.LeafState.TheVariants.{Open, GivenTo, Closed}

-- the state of a coordinator between two events
pub record CoordinatorState : Type 0 where
  pub formula : Cnf
  pub definitions : Definitions
  pub session : ℕ
  pub limit : ℕ
  -- the cubes of the leaves of the tree that the coordinator was made with
  pub initial_tree : List Cube
  -- the cubes of the leaves of the present tree, in order
  pub tree : List Cube
  -- the state of each leaf
  pub leaves : List LeafState
  -- the fragment of each closed leaf; empty for a leaf that is not closed
  pub fragments : List (List ℕ)
  -- for each worker, from 1 on, its job if it has one
  pub jobs : List (Option Job)
  -- for each worker, from 1 on, the noted offset of its Want if there is one
  pub wants : List (Option ℕ)
  -- the number of the next job; 2^64 if none is left
  pub next : ℕ
  pub stuck : Bool
  pub verdict : Verdict

-- a new coordinator without definitions; the arguments are formula, tree, limit, number of workers, session
abbrev pub new_coordinator : Cnf → List Cube → ℕ → ℕ → ℕ → CoordinatorState
new_coordinator F tree limit workers session = record {
  formula = F;
  definitions = no_definitions;
  session = session;
  limit = limit;
  initial_tree = tree;
  tree = tree;
  leaves = replicate (length tree) Open;
  fragments = replicate (length tree) [];
  jobs = replicate workers None;
  wants = replicate workers None;
  next = 1;
  stuck = false;
  verdict = Nothing;
}

-- the coordinator as newly made, in another session; formula, definitions, initial tree, limit and number of workers stay
abbrev pub restarted_coordinator : CoordinatorState → ℕ → CoordinatorState
restarted_coordinator c session = record (new_coordinator c.formula c.initial_tree c.limit (length c.jobs) session) { definitions = c.definitions }

-- the preamble of the coordinator's formula: its pure literals and the definitions
abbrev pub coordinator_opening : CoordinatorState → Opening
coordinator_opening c = record { units = pure_literals c.formula; pairs = c.definitions.pairs }

-- the base, over which fragments close their cubes: the formula with the preamble
abbrev pub coordinator_base : CoordinatorState → Cnf
coordinator_base c = base_with c.formula c.definitions.pairs

-- the job of a worker (from 1), if it has one
abbrev pub job_at : CoordinatorState → ℕ → Option Job
job_at c zero = None
job_at c (suc k) = slice_index_or c.jobs k None

-- the noted offset of the Want of a worker (from 1), if there is one
abbrev pub want_at : CoordinatorState → ℕ → Option ℕ
want_at c zero = None
want_at c (suc k) = slice_index_or c.wants k None

-- the cube of the leaf at an index, from 0
abbrev pub cube_at : CoordinatorState → ℕ → Cube
cube_at c leaf = slice_index_or c.tree leaf []

-- the coordinator with this job in the worker's slot; `None` is no job
abbrev pub with_job : CoordinatorState → ℕ → Option Job → CoordinatorState
with_job c worker job = record c { jobs = slice_set c.jobs (worker - 1) job }

-- the leaf of the worker's job is open again, and the worker has no job
abbrev pub reopened : CoordinatorState → ℕ → Job → CoordinatorState
reopened c worker j = record c { leaves = slice_set c.leaves j.leaf Open; jobs = slice_set c.jobs (worker - 1) None }

-- the leaf of the worker's job is closed with this fragment, and the worker has no job
abbrev pub closed : CoordinatorState → ℕ → Job → List ℕ → CoordinatorState
closed c worker j text = record c {
  leaves = slice_set c.leaves j.leaf Closed;
  fragments = slice_set c.fragments j.leaf text;
  jobs = slice_set c.jobs (worker - 1) None;
}

-- a split of the leaf stays within the limits: its cube has fewer than 64 literals, the tree fewer than 65,536 leaves, and the variables of
-- the base are at most 2,000,000, as in a frame
pub record MaySplit (c : CoordinatorState) (leaf : ℕ) : Type 0 where
  pub short : length (cube_at c leaf) < 64
  pub few : length c.tree < 65536
  pub narrow : c.formula.vars + length c.definitions.pairs ≤ 2000000

-- the leaf can be split on v: the split is within the limits, and the split rule chooses v
pub record CanSplit (c : CoordinatorState) (leaf v : ℕ) : Type 0 where
  pub may : MaySplit c leaf
  pub choice : Chooses c.formula (coordinator_opening c) (cube_at c leaf) (Some v)

-- the leaf of the worker's job is split on the variable v: both branches are open, the worker has no job, and the index of each later leaf
-- grows by 1
abbrev pub split : CoordinatorState → ℕ → Job → ℕ → CoordinatorState
split c worker j v = record c {
  tree = branched j.leaf v c.tree;
  leaves = doubled j.leaf Open c.leaves;
  fragments = doubled j.leaf [] c.fragments;
  jobs = map (shifted_job j.leaf) (slice_set c.jobs (worker - 1) None);
}

-- the leaf is closed
abbrev pub IsClosed : LeafState → Type 0
IsClosed l = l ≡ Closed

-- all leaves are closed
abbrev pub AreClosed : List LeafState → Type 0
AreClosed leaves = All IsClosed leaves

-- the job with x as what its first Done fixed
abbrev pub with_fixed : Job → Fixed → Job
with_fixed j x = record j { fixed = Some x }

-- no verdict is held, and the coordinator is not stuck
pub record IsDeciding (c : CoordinatorState) : Type 0 where
  pub undecided : c.verdict ≡ Nothing
  pub going : c.stuck ≡ false

-- the coordinator is deciding, and j is the worker's job, of this session and number
pub record IsAwaited (c : CoordinatorState) (session number worker : ℕ) (j : Job) : Type 0 where
  pub deciding : IsDeciding c
  pub session_is : session ≡ c.session
  pub job : job_at c worker ≡ Some j
  pub number_is : number ≡ j.number

-- j is a job that the coordinator waits for, the attempt is of it, x is what the first Done of j fixed, and the attempt's incarnation sent
-- that Done
pub record IsFetched (c : CoordinatorState) (attempt : Attempt) (j : Job) (x : Fixed) : Type 0 where
  pub awaited : IsAwaited c attempt.session attempt.job attempt.worker j
  pub fixed : j.fixed ≡ Some x
  pub incarnation : attempt.incarnation ≡ x.incarnation

-- The fragment of the worker's job is complete; `text` is the fragment, `answer` and `new` are the reaction and the next state.
pub data CompletesFragment (c : CoordinatorState) (worker : ℕ) (j : Job) (text : List ℕ) (answer : Reaction) (new : CoordinatorState) : Type 0 where
  -- the fragment does not close the leaf's cube
  wrong : ¬ (Closes (coordinator_base c) (cube_at c j.leaf) text) → answer ≡ reaction.Refused 1 → new ≡ reopened c worker j → CompletesFragment c worker j text answer new
  -- the fragment closes the leaf's cube, and some other leaf is not closed
  closes : Closes (coordinator_base c) (cube_at c j.leaf) text → ¬ (AreClosed (closed c worker j text).leaves)
      → answer ≡ reaction.Taken → new ≡ closed c worker j text → CompletesFragment c worker j text answer new
  -- the fragment closes the last leaf: the joined fragments are the verdict
  joins : Closes (coordinator_base c) (cube_at c j.leaf) text → AreClosed (closed c worker j text).leaves
      → (proof : List ℕ) → JoinedOver c.formula c.definitions.pairs c.tree (closed c worker j text).fragments proof → length proof < 2 ^ 32
      → answer ≡ reaction.Verdict → new ≡ record (closed c worker j text) { verdict = Proof proof } → CompletesFragment c worker j text answer new
  -- the fragment closes the last leaf, but the joined text has at least 2^32 bytes, which no frame can announce
  too_long : Closes (coordinator_base c) (cube_at c j.leaf) text → AreClosed (closed c worker j text).leaves
      → (proof : List ℕ) → JoinedOver c.formula c.definitions.pairs c.tree (closed c worker j text).fragments proof → 2 ^ 32 ≤ length proof
      → answer ≡ reaction.Taken → new ≡ record (closed c worker j text) { stuck = true } → CompletesFragment c worker j text answer new

-- The assignment of the worker's job is complete: it becomes the verdict, or the leaf is opened again.
pub data CompletesAssignment (c : CoordinatorState) (worker : ℕ) (j : Job) (x : Fixed) (answer : Reaction) (new : CoordinatorState) : Type 0 where
  holds : (v : Verdict) → IsRightEvidence c.formula answers.Assignment x.evidence.bytes v
      → answer ≡ reaction.Verdict → new ≡ record (with_job c worker (Some (with_fixed j x))) { verdict = v } → CompletesAssignment c worker j x answer new
  wrong : IsWrongEvidence c.formula answers.Assignment x.evidence.bytes → answer ≡ reaction.Refused 2 → new ≡ reopened c worker j → CompletesAssignment c worker j x answer new

-- The evidence of the worker's job was announced, or has got more bytes; x is what is fixed of the job, with these bytes.
pub data ReceivesJobEvidence (c : CoordinatorState) (worker : ℕ) (j : Job) (x : Fixed) (answer : Reaction) (new : CoordinatorState) : Type 0 where
  -- the evidence is incomplete
  waits : ¬ (IsComplete x.evidence) → answer ≡ reaction.Taken → new ≡ with_job c worker (Some (with_fixed j x)) → ReceivesJobEvidence c worker j x answer new
  -- the evidence is complete
  fragment : IsComplete x.evidence → answer_of x.evidence.finding ≡ answers.Refuted → CompletesFragment c worker j x.evidence.bytes answer new → ReceivesJobEvidence c worker j x answer new
  assignment : IsComplete x.evidence → answer_of x.evidence.finding ≡ answers.Assignment → CompletesAssignment c worker j x answer new → ReceivesJobEvidence c worker j x answer new
  -- memory for the bytes, for their check or for joining was refused
  no_memory : (0 < length x.evidence.bytes) ⊎ IsComplete x.evidence → answer ≡ reaction.NoMemory → new ≡ c → ReceivesJobEvidence c worker j x answer new

-- what the first Done of a job fixes: the incarnation, and the announced evidence, of which no byte has been received
abbrev pub first_answer : ℕ → Finding → Fixed
first_answer incarnation finding = record { incarnation = incarnation; evidence = announced finding }

-- The first Done of the worker's job says that the search met its limit.
pub data DeliversLimit (c : CoordinatorState) (worker : ℕ) (j : Job) (answer : Reaction) (new : CoordinatorState) : Type 0 where
  splits : (v : ℕ) → CanSplit c j.leaf v → answer ≡ reaction.Taken → new ≡ split c worker j v → DeliversLimit c worker j answer new
  -- the leaf cannot be split: the coordinator is stuck
  stops : ((v : ℕ) → ¬ (CanSplit c j.leaf v)) → answer ≡ reaction.Taken → new ≡ record c { stuck = true } → DeliversLimit c worker j answer new
  -- memory for the choice of a variable, or for the branches, was refused
  no_memory : MaySplit c j.leaf → answer ≡ reaction.NoMemory → new ≡ c → DeliversLimit c worker j answer new

-- The first Done of the job j is delivered, from this attempt and with this ending.
pub data DeliversFirstDone (c : CoordinatorState) (attempt : Attempt) (j : Job) (ending : Ending) (answer : Reaction) (new : CoordinatorState) : Type 0 where
  limited : ending ≡ told.Limit → DeliversLimit c attempt.worker j answer new → DeliversFirstDone c attempt j ending answer new
  wrong_length : (finding : Finding) → ending ≡ told.Decided finding → HasWrongLength c.formula finding
      → answer ≡ reaction.Refused 2 → new ≡ reopened c attempt.worker j → DeliversFirstDone c attempt j ending answer new
  fixes : (finding : Finding) → ending ≡ told.Decided finding → ¬ (HasWrongLength c.formula finding)
      → ReceivesJobEvidence c attempt.worker j (first_answer attempt.incarnation finding) answer new → DeliversFirstDone c attempt j ending answer new

-- A Done is delivered.
pub data DeliversDone (c : CoordinatorState) (attempt : Attempt) (ending : Ending) (answer : Reaction) (new : CoordinatorState) : Type 0 where
  is_ignored : ((j : Job) → ¬ (IsAwaited c attempt.session attempt.job attempt.worker j)) → answer ≡ reaction.Ignored → new ≡ c → DeliversDone c attempt ending answer new
  -- the Done is the first one of the job
  first : (j : Job) → IsAwaited c attempt.session attempt.job attempt.worker j → j.fixed ≡ None → DeliversFirstDone c attempt j ending answer new → DeliversDone c attempt ending answer new
  -- this incarnation has sent a Done before
  again : (j : Job) (x : Fixed) → IsFetched c attempt j x → answer ≡ reaction.Ignored → new ≡ c → DeliversDone c attempt ending answer new
  -- another incarnation has sent a Done before
  anew : (j : Job) (x : Fixed) → IsAwaited c attempt.session attempt.job attempt.worker j → j.fixed ≡ Some x → attempt.incarnation ≢ x.incarnation
      → answer ≡ reaction.Taken → new ≡ reopened c attempt.worker j → DeliversDone c attempt ending answer new

-- the Piece belongs to the evidence that is fixed of the job, and its bytes follow the bytes so far of that evidence
pub record IsNextPiece (c : CoordinatorState) (attempt : Attempt) (offset : ℕ) (bytes : List ℕ) (j : Job) (x : Fixed) : Type 0 where
  pub fetched : IsFetched c attempt j x
  pub comes : ComeNext x.evidence offset bytes

-- A Piece is delivered; it has bytes of evidence.
pub data DeliversPiece (c : CoordinatorState) (attempt : Attempt) (offset : ℕ) (bytes : List ℕ) (answer : Reaction) (new : CoordinatorState) : Type 0 where
  is_ignored : ((j : Job) (x : Fixed) → ¬ (IsNextPiece c attempt offset bytes j x)) → answer ≡ reaction.Ignored → new ≡ c → DeliversPiece c attempt offset bytes answer new
  appends : (j : Job) (x : Fixed) → IsNextPiece c attempt offset bytes j x
      → ReceivesJobEvidence c attempt.worker j (record x { evidence = with_bytes x.evidence bytes }) answer new → DeliversPiece c attempt offset bytes answer new

-- the coordinator is deciding, and what is fixed of the worker's job came from another incarnation of the worker
pub record IsStale (c : CoordinatorState) (worker incarnation : ℕ) (j : Job) : Type 0 where
  pub deciding : IsDeciding c
  pub job : job_at c worker ≡ Some j
  pub other : (x : Fixed) × (j.fixed ≡ Some x) × (x.incarnation ≢ incarnation)

-- An Idle is delivered: if what is fixed of the worker's job came from another incarnation, the leaf is opened again.
pub data DeliversIdle (c : CoordinatorState) (worker incarnation : ℕ) (answer : Reaction) (new : CoordinatorState) : Type 0 where
  is_ignored : ((j : Job) → ¬ (IsStale c worker incarnation j)) → answer ≡ reaction.Ignored → new ≡ c → DeliversIdle c worker incarnation answer new
  anew : (j : Job) → IsStale c worker incarnation j → answer ≡ reaction.Taken → new ≡ reopened c worker j → DeliversIdle c worker incarnation answer new

-- the number is that of a worker of this coordinator; workers are numbered from 1
abbrev pub IsWorker : CoordinatorState → ℕ → Type 0
IsWorker c worker = (1 ≤ worker) × (worker ≤ length c.jobs)

-- a verdict is held that has a byte at this offset, and the session and the worker are of this coordinator
pub record HasWantedByte (c : CoordinatorState) (session worker offset : ℕ) : Type 0 where
  pub decided : c.verdict ≢ Nothing
  pub session_is : session ≡ c.session
  pub known : IsWorker c worker
  pub within : offset < length (bytes_in c.verdict)

-- A Want is delivered: a worker asks for bytes of the verdict.
pub data DeliversWant (c : CoordinatorState) (session worker offset : ℕ) (answer : Reaction) (new : CoordinatorState) : Type 0 where
  is_ignored : ¬ (HasWantedByte c session worker offset) → answer ≡ reaction.Ignored → new ≡ c → DeliversWant c session worker offset answer new
  notes : HasWantedByte c session worker offset → answer ≡ reaction.Taken → new ≡ record c { wants = slice_set c.wants (worker - 1) (Some offset) } → DeliversWant c session worker offset answer new

-- the frame is delivered to the coordinator, with this reaction and this next state
abbrev pub CoordinatorDelivers : CoordinatorState → Frame → Reaction → CoordinatorState → Type 0
CoordinatorDelivers c (Done attempt ending) answer new = DeliversDone c attempt ending answer new
CoordinatorDelivers c (Piece attempt offset bytes) answer new = DeliversPiece c attempt offset bytes answer new
CoordinatorDelivers c (Idle worker incarnation) answer new = DeliversIdle c worker incarnation answer new
CoordinatorDelivers c (Want session worker offset) answer new = DeliversWant c session worker offset answer new
CoordinatorDelivers c (Task session job limit cube) answer new = Ignores c answer new
CoordinatorDelivers c (Fetch attempt offset) answer new = Ignores c answer new
CoordinatorDelivers c (VerdictFrame session finding) answer new = Ignores c answer new
CoordinatorDelivers c (Part session part offset bytes) answer new = Ignores c answer new
CoordinatorDelivers c Rest answer new = Ignores c answer new

-- the result of a poll: a frame to a worker, and the coordinator after the frame was sent
pub record Poll : Type 0 where
  pub frame : Frame
  pub after : CoordinatorState

-- the poll with this frame and this next state
abbrev pub poll_result : Frame → CoordinatorState → Poll
poll_result frame after = record { frame = frame; after = after }

-- the name of a job of this coordinator: its session and number
abbrev pub job_name : CoordinatorState → Job → JobName
job_name c j = record { session = c.session; job = j.number }

-- the Task of a job of this coordinator
abbrev pub task_of : CoordinatorState → Job → Frame
task_of c j = Task c.session j.number c.limit (cube_at c j.leaf)

-- the poll if a verdict is held: with a noted offset, Part with the verdict's bytes from there, and the offset is cleared; else Verdict
abbrev pub verdict_poll : CoordinatorState → ℕ → Option ℕ → Poll
verdict_poll c worker (Some offset) = poll_result (Part c.session (answer_in c.verdict) offset (take chunk (drop offset (bytes_in c.verdict)))) (record c { wants = slice_set c.wants (worker - 1) None })
verdict_poll c worker None = poll_result (VerdictFrame c.session (finding_in c.verdict)) c

-- tells whether a leaf is open
abbrev pub is_open : LeafState → Bool
is_open Open = true
is_open (GivenTo worker) = false
is_open Closed = false

-- the job with which a leaf is given to a worker
abbrev pub new_job : CoordinatorState → ℕ → Job
new_job c leaf = record { number = c.next; leaf = leaf; fixed = None }

-- the coordinator after the leaf was given to the worker, as a new job
abbrev pub gives : CoordinatorState → ℕ → ℕ → CoordinatorState
gives c worker leaf = record c { leaves = slice_set c.leaves leaf (GivenTo worker); jobs = slice_set c.jobs (worker - 1) (Some (new_job c leaf)); next = c.next + 1 }

-- the poll for a worker without a job: Task for the leftmost open leaf, if there is one and job numbers are left; else Rest
abbrev pub leaf_poll : CoordinatorState → ℕ → Bool → Option ℕ → Poll
leaf_poll c worker true (Some leaf) = poll_result (task_of c (new_job c leaf)) (gives c worker leaf)
leaf_poll c worker true None = poll_result Rest c
leaf_poll c worker false leaf = poll_result Rest c

-- the poll for a worker with the job j: Fetch for the next bytes of its evidence, if that was announced; else its Task again
abbrev pub fixed_poll : CoordinatorState → ℕ → Job → Option Fixed → Poll
fixed_poll c worker j (Some x) = poll_result (Fetch (attempt_at (job_name c j) worker x.incarnation) (length x.evidence.bytes)) c
fixed_poll c worker j None = poll_result (task_of c j) c

-- the poll if the coordinator is deciding, by the worker's job
abbrev pub job_poll : CoordinatorState → ℕ → Option Job → Poll
job_poll c worker (Some j) = fixed_poll c worker j j.fixed
job_poll c worker None = leaf_poll c worker (nat_lt c.next (2 ^ 64)) (position is_open c.leaves)

-- the poll if no verdict is held: Rest if the coordinator is stuck
abbrev pub stuck_poll : CoordinatorState → ℕ → Bool → Poll
stuck_poll c worker true = poll_result Rest c
stuck_poll c worker false = job_poll c worker (job_at c worker)

-- the poll for a worker, by the verdict that is held
abbrev pub poll_by : CoordinatorState → ℕ → Verdict → Poll
poll_by c worker Nothing = stuck_poll c worker c.stuck
poll_by c worker (Model values) = verdict_poll c worker (want_at c worker)
poll_by c worker (Proof text) = verdict_poll c worker (want_at c worker)

-- the result of a poll for a worker
abbrev pub coordinator_poll : CoordinatorState → ℕ → Poll
coordinator_poll c worker = poll_by c worker c.verdict

-- The coordinator is polled for a worker: it sends the frame, or memory for the frame was refused.
pub data CoordinatorPolls (c : CoordinatorState) (worker : ℕ) (given : Given) (new : CoordinatorState) : Type 0 where
  sends : given ≡ Sent (coordinator_poll c worker).frame → new ≡ (coordinator_poll c worker).after → CoordinatorPolls c worker given new
  no_memory : FrameNeedsMemory (coordinator_poll c worker).frame → given ≡ Reacted reaction.NoMemory → new ≡ c → CoordinatorPolls c worker given new

-- the coordinator after the connection to a worker was lost that has this job: the leaf of the job is open again
abbrev pub lost_by : CoordinatorState → ℕ → Option Job → CoordinatorState
lost_by c worker None = c
lost_by c worker (Some j) = reopened c worker j

-- the coordinator after the connection to the worker was lost
abbrev pub after_loss : CoordinatorState → ℕ → CoordinatorState
after_loss c worker = lost_by c worker (job_at c worker)

-- One event at a coordinator, with its output and the next state, by cases. `Worked` is no event of a coordinator.
abbrev pub CoordinatorStep : CoordinatorState → Event → Given → CoordinatorState → Type 0
CoordinatorStep c (Delivered frame) (Reacted answer) new = CoordinatorDelivers c frame answer new
CoordinatorStep c (Polled worker) given new = IsWorker c worker × CoordinatorPolls c worker given new
CoordinatorStep c (Lost worker) Silent new = new ≡ after_loss c worker
CoordinatorStep c (Delivered frame) (Sent sent) new = ⊥
CoordinatorStep c (Delivered frame) Silent new = ⊥
CoordinatorStep c (Lost worker) (Reacted answer) new = ⊥
CoordinatorStep c (Lost worker) (Sent sent) new = ⊥
CoordinatorStep c Worked given new = ⊥
