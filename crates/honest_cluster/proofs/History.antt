-- The history of a closed schedule: a job's name has one cube, an attempt at a job has one reply, a session has one verdict. Frames and
-- nodes agree with it. Nobody has to read this to believe the laws.
use Rattle.std.specs.Prelude.{◌≡◌, ◌≢◌, ℕ, suc, ◌-◌, ◌<◌, ◌≤◌, List, ◌++◌, length, Contains, All, Option, Some, None, slice_get, slice_index_or, ◌⊎◌}
use Rattle.dimacs.specs.logic.Cnf.{Cnf}
use Rattle.icnf.specs.Leaves.{Cube}
use Rattle.lrat_text.specs.Log.{Closes}
use Rattle.lrat_check.specs.Verdicts.{Right}
use Rattle.lrat_check.specs.declared.verdict.Verdict.{Verdict}
use Rattle.lrat_check.specs.declared.verdict.Verdict.TheVariants.{Nothing}
use Rattle.frames.specs.declared.answer.Answer.{Answer}
use Rattle.frames.specs.declared.answer.Answer.TheVariants as answers
use Rattle.frames.specs.declared.answer.Ending.{Ending}
use Rattle.frames.specs.declared.answer.Ending.TheVariants as told
use Rattle.frames.specs.declared.frame.Attempt.{Attempt}
use Rattle.frames.specs.declared.frame.Frame.{Frame}
use Rattle.frames.specs.declared.frame.Frame.TheVariants.{Task, Done, Fetch, Piece, Verdict as VerdictFrame, Want, Part, Idle, Rest}
use Rattle.cube_split.specs.Definitions.{base_with}
use Rattle.evidence.specs.Evidence.{finding_of, answer_in, bytes_in, finding_in, IsRightEvidence}
use Rattle.evidence.specs.declared.evidence.Evidence.{Evidence}
use Rattle.evidence.specs.Jobs.{name_of, attempt_at, IsBefore, IsOverBase}
use Rattle.evidence.specs.declared.job.JobName.{JobName}
use Rattle.worker_core.specs.Worker.{WorkerState, own_attempt}
use Rattle.worker_core.specs.declared.work.Work.{Work}
use Rattle.worker_core.specs.declared.work.Work.TheVariants.{Free, Pending, Limited, Found}
use Rattle.worker_core.specs.declared.candidate.Candidate.{Candidate}
use Rattle.coordinator_core.specs.Coordinator.{CoordinatorState, job_name, cube_at}
use Rattle.coordinator_core.specs.declared.job_state.Fixed.{Fixed}
use Rattle.coordinator_core.specs.declared.job_state.Job.{Job}
use Rattle.coordinator_core.specs.declared.job_state.LeafState.TheVariants.{GivenTo}
use Rattle.coordinator_core.specs.Invariant.{IsCoordinator}
use Rattle.honest_cluster.specs.ClosedSchedule.{Beginning, ClosedState}
use Rattle.honest_cluster.specs.ClosedLaws.{HasBytesAt}

-- a job of this name has this cube
pub record Asked : Type 0 where
  pub name : JobName
  pub cube : Cube

-- how a search ended: at its limit, or with evidence
pub data Reply : Type 0 where
  Met : Reply
  Shown : Answer → List ℕ → Reply

-- this attempt has this reply
pub record Answered : Type 0 where
  pub attempt : Attempt
  pub reply : Reply

-- the coordinator of this session holds this verdict
pub record Decision : Type 0 where
  pub session : ℕ
  pub verdict : Verdict

pub record History : Type 0 where
  pub asked : List Asked
  pub answered : List Answered
  pub decided : List Decision

abbrev pub asks : JobName → Cube → Asked
asks name cube = record { name = name; cube = cube }

abbrev pub answers_so : Attempt → Reply → Answered
answers_so attempt reply = record { attempt = attempt; reply = reply }

abbrev pub decides : ℕ → Verdict → Decision
decides session v = record { session = session; verdict = v }

-- the ending by which a Done tells a reply
abbrev pub ending_of : Reply → Ending
ending_of Met = told.Limit
ending_of (Shown answer bytes) = told.Decided (finding_of answer (length bytes))

-- the bytes are a prefix of all
pub record IsPrefix (bytes all : List ℕ) : Type 0 where
  pub rest : List ℕ
  pub whole : all ≡ bytes ++ rest

-- what a frame tells is in the history
abbrev pub IsTrueFrame : History → ℕ → Frame → Type 0
IsTrueFrame T limit (Task session job bound cube) = (bound ≡ limit) × Contains T.asked (asks (record { session = session; job = job }) cube)
IsTrueFrame T limit (Done attempt ending) = (reply : Reply) × Contains T.answered (answers_so attempt reply) × (ending ≡ ending_of reply)
IsTrueFrame T limit (Fetch attempt offset) = (answer : Answer) × (bytes : List ℕ) × Contains T.answered (answers_so attempt (Shown answer bytes))
IsTrueFrame T limit (Piece attempt offset bytes) = (answer : Answer) × (all : List ℕ) × Contains T.answered (answers_so attempt (Shown answer all)) × HasBytesAt all offset bytes
IsTrueFrame T limit (VerdictFrame session finding) = (v : Verdict) × Contains T.decided (decides session v) × (finding ≡ finding_in v)
IsTrueFrame T limit (Part session answer offset bytes) = (v : Verdict) × Contains T.decided (decides session v) × (answer ≡ answer_in v) × HasBytesAt (bytes_in v) offset bytes
IsTrueFrame T limit (Want session worker offset) = Unit {0}
IsTrueFrame T limit (Idle worker incarnation) = Unit {0}
IsTrueFrame T limit Rest = Unit {0}

-- a reply is true: a fragment closes the cube of its job over the base, an assignment satisfies the formula
abbrev pub IsTrueReply : Cnf → Cnf → List Asked → JobName → Reply → Type 0
IsTrueReply F B asked name Met = Unit {0}
IsTrueReply F B asked name (Shown answers.Refuted bytes) = (cube : Cube) × Contains asked (asks name cube) × Closes B cube bytes
IsTrueReply F B asked name (Shown answers.Assignment bytes) = (v : Verdict) × IsRightEvidence F answers.Assignment bytes v

-- each name has one cube, each attempt one reply, each session one verdict, and all of these are true
pub record IsSettled (F B : Cnf) (T : History) : Type 0 where
  pub one_cube : (name : JobName) (p q : Cube) → Contains T.asked (asks name p) → Contains T.asked (asks name q) → p ≡ q
  pub inside : (name : JobName) (q : Cube) → Contains T.asked (asks name q) → IsOverBase B q
  pub one_reply : (attempt : Attempt) (r s : Reply) → Contains T.answered (answers_so attempt r) → Contains T.answered (answers_so attempt s) → r ≡ s
  pub true_reply : (attempt : Attempt) (r : Reply) → Contains T.answered (answers_so attempt r) → IsTrueReply F B T.asked (name_of attempt) r
  pub one_verdict : (session : ℕ) (v w : Verdict) → Contains T.decided (decides session v) → Contains T.decided (decides session w) → v ≡ w
  pub decision : (session : ℕ) (v : Verdict) → Contains T.decided (decides session v) → v ≢ Nothing
  pub right : (session : ℕ) (v : Verdict) → Contains T.decided (decides session v) → Right F v

-- the evidence so far is a prefix of all bytes of the answer
pub record IsPrefixOf (e : Evidence) (answer : Answer) (all : List ℕ) : Type 0 where
  pub finding : e.finding ≡ finding_of answer (length all)
  pub front : IsPrefix e.bytes all

-- a noted offset is below the number of bytes
abbrev pub IsNote : Option ℕ → List ℕ → Type 0
IsNote noted bytes = (offset : ℕ) → noted ≡ Some offset → offset < length bytes

-- a pending task is in the history, and so is a kept answer, as this worker's reply to the last task that it took
abbrev pub IsHonestWork : History → WorkerState → Work → Type 0
IsHonestWork T w Free = Unit {0}
IsHonestWork T w (Pending name cube limit) = (w.last ≡ Some name) × Contains T.asked (asks name cube)
IsHonestWork T w (Limited name) = (w.last ≡ Some name) × Contains T.answered (answers_so (own_attempt w name) Met)
IsHonestWork T w (Found name answer bytes noted) =
    (w.last ≡ Some name) × Contains T.answered (answers_so (own_attempt w name) (Shown answer bytes)) × IsNote noted bytes

-- the worker is past a job of this name: it is earlier than the last one, or is the last one and not pending
abbrev pub IsPassed : Option JobName → JobName → Type 0
IsPassed last name = (l : JobName) × (last ≡ Some l) × (IsBefore name l ⊎ (name ≡ l))

abbrev pub IsEarlierJob : WorkerState → Work → JobName → Type 0
IsEarlierJob w Free name = IsPassed w.last name
IsEarlierJob w (Pending waits cube limit) name = IsBefore name waits
IsEarlierJob w (Limited last) name = IsPassed w.last name
IsEarlierJob w (Found last answer bytes noted) name = IsPassed w.last name

-- the invariant of a worker
pub record IsHonestWorker (T : History) (w : WorkerState) : Type 0 where
  pub work : IsHonestWork T w w.work
  pub behind : (name : JobName) (r : Reply) → Contains T.answered (answers_so (own_attempt w name) r) → IsEarlierJob w w.work name
  pub candidate : (c : Candidate) → w.candidate ≡ Some c → (v : Verdict) × Contains T.decided (decides c.session v) × IsPrefixOf c.evidence (answer_in v) (bytes_in v)
  pub right : Right w.formula w.verdict

-- a job is in the history, its leaf is given to its worker, and what is fixed of it is a prefix of that worker's reply
pub record IsHonestJob (T : History) (c : CoordinatorState) (worker : ℕ) (j : Job) : Type 0 where
  pub asked : Contains T.asked (asks (job_name c j) (cube_at c j.leaf))
  pub given : slice_get c.leaves j.leaf ≡ Some (GivenTo worker)
  pub fixed : (x : Fixed) → j.fixed ≡ Some x → (answer : Answer) × (all : List ℕ)
      × Contains T.answered (answers_so (attempt_at (job_name c j) worker x.incarnation) (Shown answer all)) × IsPrefixOf x.evidence answer all

-- the slot of a worker, from worker 1 on
abbrev pub slot_of : CoordinatorState → ℕ → Option Job
slot_of c worker = slice_index_or c.jobs (worker - 1) None

-- the invariant of a coordinator under closed schedules
pub record IsHonestCoordinator (T : History) (c : CoordinatorState) : Type 0 where
  pub jobs : (worker : ℕ) (j : Job) → 1 ≤ worker → slot_of c worker ≡ Some j → IsHonestJob T c worker j
  pub next : (name : JobName) (q : Cube) → Contains T.asked (asks name q) → name.session ≡ c.session → name.job < c.next
  pub decided : c.verdict ≢ Nothing → Contains T.decided (decides c.session c.verdict)
  pub undecided : (v : Verdict) → Contains T.decided (decides c.session v) → c.verdict ≢ Nothing

-- all sessions and incarnations of the history are used numbers
pub record AreUsed (T : History) (used : List ℕ) : Type 0 where
  pub asked : (name : JobName) (q : Cube) → Contains T.asked (asks name q) → Contains used name.session
  pub answered : (attempt : Attempt) (r : Reply) → Contains T.answered (answers_so attempt r) → Contains used attempt.incarnation
  pub decided : (session : ℕ) (v : Verdict) → Contains T.decided (decides session v) → Contains used session

-- the base that all nodes share
abbrev pub shared_base : Beginning → Cnf
shared_base b = base_with b.formula b.definitions.pairs

-- a worker of a closed cluster
pub record IsMember (b : Beginning) (T : History) (used : List ℕ) (place : ℕ) (w : WorkerState) : Type 0 where
  pub formula : w.formula ≡ b.formula
  pub base : w.base ≡ shared_base b
  pub number : w.number ≡ suc place
  pub known : Contains used w.incarnation
  pub honest : IsHonestWorker T w

-- the invariant of a closed cluster that began with b, with the history so far
pub record IsHonestCluster (b : Beginning) (T : History) (s : ClosedState) : Type 0 where
  pub settled : IsSettled b.formula (shared_base b) T
  pub formula : s.coordinator.formula ≡ b.formula
  pub definitions : s.coordinator.definitions ≡ b.definitions
  pub limit_is : s.coordinator.limit ≡ b.limit
  pub session : Contains s.used s.coordinator.session
  pub coordinator : IsCoordinator s.coordinator
  pub honest : IsHonestCoordinator T s.coordinator
  pub workers : (i : ℕ) (w : WorkerState) → slice_get s.workers i ≡ Some w → IsMember b T s.used i w
  pub frames : All (IsTrueFrame T b.limit) s.frames
  pub used : AreUsed T s.used
