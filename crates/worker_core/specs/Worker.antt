-- The rules of a worker: it takes tasks and searches, sends what it found, and receives and checks a verdict that the coordinator
-- announced.
use Rattle.std.specs.Prelude.{◌≡◌, ◌≢◌, ℕ, ◌+◌, ◌<◌, ◌≤◌, ◌^◌, nat_lt, List, length, map, take, drop, Option, Some, None, ◌⊎◌, if◌then◌else◌}
use Rattle.dimacs.specs.logic.Base.{base_of}
use Rattle.dimacs.specs.logic.Cnf.{Cnf}
use Rattle.cube_solve.specs.Conflicts.{MeetsConflict}
use Rattle.cube_solve.specs.Outcome.{IsFresh, IsModel, allowed}
use Rattle.cube_solve.specs.declared.outcome.Outcome.{Outcome}
use Rattle.cube_solve.specs.declared.outcome.Outcome.TheVariants as outcome
use Rattle.icnf.specs.Leaves.{Cube}
use Rattle.lrat_text.specs.Log.{Closes, IsHonest}
use Rattle.proof_trim.specs.TrimmedFragment.{HasAtMostAdditions}
use Rattle.lrat_check.specs.Judgement.{value_byte}
use Rattle.lrat_check.specs.declared.verdict.Verdict.{Verdict}
use Rattle.lrat_check.specs.declared.verdict.Verdict.TheVariants.{Nothing}
use Rattle.lrat_check.specs.declared.verdict.Reaction.{Reaction}
use Rattle.lrat_check.specs.declared.verdict.Reaction.TheVariants as reaction
use Rattle.frames.specs.Answers.{answer_number, answer_of}
use Rattle.frames.specs.declared.answer.Answer.{Answer}
use Rattle.frames.specs.declared.answer.Answer.TheVariants as answers
use Rattle.frames.specs.declared.answer.Finding.{Finding}
use Rattle.frames.specs.declared.answer.Ending.TheVariants as told
use Rattle.frames.specs.declared.frame.Attempt.{Attempt}
use Rattle.frames.specs.declared.frame.Frame.{Frame}
use Rattle.frames.specs.declared.frame.Frame.TheVariants.{Task, Done, Fetch, Piece, Verdict as VerdictFrame, Want, Part, Idle, Rest}
use Rattle.evidence.specs.Evidence.{finding_of, announced, with_bytes, IsComplete, ComeNext, IsRightEvidence, IsWrongEvidence, HasWrongLength}
use Rattle.evidence.specs.Events.{chunk, Event, Delivered, Worked, Polled, Lost, Given, Reacted, Sent, Silent, Ignores, FrameNeedsMemory}
use Rattle.evidence.specs.Jobs.{name_of, attempt_at, IsLater, IsOverBase}
use Rattle.evidence.specs.declared.job.JobName.{JobName}
use Rattle.worker_core.specs.declared.candidate.Candidate.{Candidate}
use Rattle.worker_core.specs.declared.work.Work.{Work}
use Rattle.worker_core.specs.declared.work.Work.TheVariants.{Free, Pending, Limited, Found}

-- the state of a worker between two events
pub record WorkerState : Type 0 where
  pub formula : Cnf
  -- the number of definitions asked for
  pub wanted : ℕ
  -- the base that is searched: the formula with pure literals and definitions
  pub base : Cnf
  pub number : ℕ
  pub incarnation : ℕ
  -- the name of the last task taken
  pub last : Option JobName
  pub work : Work
  pub candidate : Option Candidate
  pub verdict : Verdict

-- the evidence of the answer that was found, if one is kept
abbrev pub found_bytes : Work → Option (List ℕ)
found_bytes (Found name answer bytes noted) = Some bytes
found_bytes Free = None
found_bytes (Pending name cube limit) = None
found_bytes (Limited name) = None

-- a new worker without definitions; the arguments are formula, number, incarnation
abbrev pub new_worker : Cnf → ℕ → ℕ → WorkerState
new_worker F number incarnation = record {
  formula = F;
  wanted = 0;
  base = base_of F;
  number = number;
  incarnation = incarnation;
  last = None;
  work = Free;
  candidate = None;
  verdict = Nothing;
}

-- the worker as newly made, under another incarnation; formula, base, number and the number of definitions asked for stay
abbrev pub restarted_worker : WorkerState → ℕ → WorkerState
restarted_worker w incarnation = record (new_worker w.formula w.number incarnation) { wanted = w.wanted; base = w.base }

-- A Task is delivered to the worker w; `answer` and `new` are the reaction and the next state.
pub data DeliversTask (w : WorkerState) (name : JobName) (limit : ℕ) (cube : Cube) (answer : Reaction) (new : WorkerState) : Type 0 where
  -- the task is not later than the last task taken
  repeated : ¬ (IsLater w.last name) → answer ≡ reaction.Ignored → new ≡ w → DeliversTask w name limit cube answer new
  -- the cube has a variable that is not one of the base
  foreign : IsLater w.last name → ¬ (IsOverBase w.base cube) → answer ≡ reaction.Refused 3 → new ≡ w → DeliversTask w name limit cube answer new
  -- the task is pending, and the kept answer is dropped
  taken : IsLater w.last name → IsOverBase w.base cube → answer ≡ reaction.Taken → new ≡ record w { last = Some name; work = Pending name cube limit } → DeliversTask w name limit cube answer new
  -- memory for the task's cube was refused
  no_memory : IsLater w.last name → IsOverBase w.base cube → 0 < length cube → answer ≡ reaction.NoMemory → new ≡ w → DeliversTask w name limit cube answer new

-- the worker keeps the byte at the offset of a Fetch: evidence of its own attempt
pub record Keeps (w : WorkerState) (attempt : Attempt) (offset : ℕ) (answer : Answer) (bytes : List ℕ) : Type 0 where
  pub noted : Option ℕ
  pub work : w.work ≡ Found (name_of attempt) answer bytes noted
  pub worker : attempt.worker ≡ w.number
  pub incarnation : attempt.incarnation ≡ w.incarnation
  pub within : offset < length bytes

-- A Fetch is delivered: the coordinator asks for bytes of the evidence.
pub data DeliversFetch (w : WorkerState) (attempt : Attempt) (offset : ℕ) (answer : Reaction) (new : WorkerState) : Type 0 where
  -- the Fetch's offset is noted, so that the next poll sends the bytes from that offset on
  notes : (found : Answer) (bytes : List ℕ) → Keeps w attempt offset found bytes → answer ≡ reaction.Taken → new ≡ record w { work = Found (name_of attempt) found bytes (Some offset) } → DeliversFetch w attempt offset answer new
  -- no byte at the Fetch's offset is kept for this attempt
  is_ignored : ((found : Answer) (bytes : List ℕ) → ¬ (Keeps w attempt offset found bytes)) → answer ≡ reaction.Ignored → new ≡ w → DeliversFetch w attempt offset answer new

-- The candidate c was announced, or has got more bytes: c is the candidate with these bytes.
pub data ReceivesEvidence (w : WorkerState) (c : Candidate) (answer : Reaction) (new : WorkerState) : Type 0 where
  -- the candidate is incomplete
  waits : ¬ (IsComplete c.evidence) → answer ≡ reaction.Taken → new ≡ record w { candidate = Some c } → ReceivesEvidence w c answer new
  -- the candidate is complete, and is a right verdict
  holds : IsComplete c.evidence → (v : Verdict) → IsRightEvidence w.formula (answer_of c.evidence.finding) c.evidence.bytes v → answer ≡ reaction.Verdict → new ≡ record w { candidate = None; verdict = v } → ReceivesEvidence w c answer new
  -- the candidate is complete, and is no right verdict
  wrong : IsComplete c.evidence → IsWrongEvidence w.formula (answer_of c.evidence.finding) c.evidence.bytes → answer ≡ reaction.Refused (answer_number (answer_of c.evidence.finding)) → new ≡ record w { candidate = None } → ReceivesEvidence w c answer new
  -- memory for the bytes, or for their check, was refused
  no_memory : (0 < length c.evidence.bytes) ⊎ IsComplete c.evidence → answer ≡ reaction.NoMemory → new ≡ w → ReceivesEvidence w c answer new

-- a verdict announced in this session is new: no verdict is held, and each candidate is of a lower session
pub record IsNewVerdict (w : WorkerState) (session : ℕ) : Type 0 where
  pub undecided : w.verdict ≡ Nothing
  pub later : (c : Candidate) → w.candidate ≡ Some c → c.session < session

-- a candidate of this session, of which no byte has been received
abbrev pub candidate_of : ℕ → Finding → Candidate
candidate_of session finding = record { session = session; evidence = announced finding }

-- A Verdict is delivered: the coordinator announces one.
pub data DeliversVerdict (w : WorkerState) (session : ℕ) (finding : Finding) (answer : Reaction) (new : WorkerState) : Type 0 where
  stale : ¬ (IsNewVerdict w session) → answer ≡ reaction.Ignored → new ≡ w → DeliversVerdict w session finding answer new
  wrong_length : IsNewVerdict w session → HasWrongLength w.formula finding → answer ≡ reaction.Refused 2 → new ≡ w → DeliversVerdict w session finding answer new
  -- the announced verdict replaces the present candidate
  begins : IsNewVerdict w session → ¬ (HasWrongLength w.formula finding) → ReceivesEvidence w (candidate_of session finding) answer new → DeliversVerdict w session finding answer new

-- no verdict is held, the Part belongs to the candidate c, and its bytes follow the bytes so far of c
pub record IsNextPart (w : WorkerState) (session : ℕ) (part : Answer) (offset : ℕ) (bytes : List ℕ) (c : Candidate) : Type 0 where
  pub undecided : w.verdict ≡ Nothing
  pub there : w.candidate ≡ Some c
  pub session_is : c.session ≡ session
  pub answer_is : answer_of c.evidence.finding ≡ part
  pub comes : ComeNext c.evidence offset bytes

-- A Part is delivered; it has bytes of a verdict.
pub data DeliversPart (w : WorkerState) (session : ℕ) (part : Answer) (offset : ℕ) (bytes : List ℕ) (answer : Reaction) (new : WorkerState) : Type 0 where
  is_ignored : ((c : Candidate) → ¬ (IsNextPart w session part offset bytes c)) → answer ≡ reaction.Ignored → new ≡ w → DeliversPart w session part offset bytes answer new
  appends : (c : Candidate) → IsNextPart w session part offset bytes c → ReceivesEvidence w (record c { evidence = with_bytes c.evidence bytes }) answer new → DeliversPart w session part offset bytes answer new

-- the frame is delivered to the worker, with this reaction and this next state
abbrev pub WorkerDelivers : WorkerState → Frame → Reaction → WorkerState → Type 0
WorkerDelivers w (Task session job limit cube) answer new = DeliversTask w (record { session = session; job = job }) limit cube answer new
WorkerDelivers w (Fetch attempt offset) answer new = DeliversFetch w attempt offset answer new
WorkerDelivers w (VerdictFrame session finding) answer new = DeliversVerdict w session finding answer new
WorkerDelivers w (Part session part offset bytes) answer new = DeliversPart w session part offset bytes answer new
WorkerDelivers w (Done attempt ending) answer new = Ignores w answer new
WorkerDelivers w (Piece attempt offset bytes) answer new = Ignores w answer new
WorkerDelivers w (Want session worker offset) answer new = Ignores w answer new
WorkerDelivers w (Idle worker incarnation) answer new = Ignores w answer new
WorkerDelivers w Rest answer new = Ignores w answer new

-- a search over B under this cube met its limit: it learnt exactly as many lemmas as the limit allows, each of them fresh, and ended at
-- a conflict under this cube; if B has n ≤ 6 variables, the limit is at most 3^n
pub record MeetsLimit (B : Cnf) (cube : Cube) (limit : ℕ) (text : List ℕ) : Type 0 where
  pub count : IsHonest B (allowed limit) text
  pub fresh : IsFresh B text
  pub conflict : MeetsConflict B cube text
  pub bound : B.vars ≤ 6 → ¬ (3 ^ B.vars < limit)

-- the outcome is one that a search over B under the cube, with this limit, may have; which of them is not specified. A refutation was
-- trimmed, so its lemmas need not be fresh
abbrev pub MayEnd : Cnf → Cube → ℕ → Outcome → Type 0
MayEnd B cube limit (outcome.Model values) = IsModel B cube values
MayEnd B cube limit (outcome.Refuted text) = Closes B cube text × HasAtMostAdditions B (allowed limit + 1) text
MayEnd B cube limit (outcome.Limit text) = MeetsLimit B cube limit text

-- the work that keeps an outcome: the values of the formula's variables, or the fragment if it is shorter than 2^32 bytes; else that the
-- limit was met
abbrev pub kept : JobName → ℕ → Outcome → Work
kept name vars (outcome.Model values) = Found name answers.Assignment (map value_byte (take vars values)) None
kept name vars (outcome.Refuted text) = if nat_lt (length text) (2 ^ 32) then Found name answers.Refuted text None else Limited name
kept name vars (outcome.Limit text) = Limited name

-- The worker is to search under the cube of its pending task.
pub data WorkerWorks (w : WorkerState) (answer : Reaction) (new : WorkerState) : Type 0 where
  rests : ((name : JobName) (cube : Cube) (limit : ℕ) → w.work ≢ Pending name cube limit) → answer ≡ reaction.Ignored → new ≡ w → WorkerWorks w answer new
  finishes : (name : JobName) (cube : Cube) (limit : ℕ) → w.work ≡ Pending name cube limit → (end : Outcome) → MayEnd w.base cube limit end → answer ≡ reaction.Finished → new ≡ record w { work = kept name w.formula.vars end } → WorkerWorks w answer new
  no_memory : (name : JobName) (cube : Cube) (limit : ℕ) → w.work ≡ Pending name cube limit → answer ≡ reaction.NoMemory → new ≡ w → WorkerWorks w answer new

-- this worker's attempt at a job
abbrev pub own_attempt : WorkerState → JobName → Attempt
own_attempt w name = attempt_at name w.number w.incarnation

-- the frame of a worker without a candidate: Done with its kept answer, or Idle
abbrev pub work_frame : WorkerState → Work → Frame
work_frame w Free = Idle w.number w.incarnation
work_frame w (Pending name cube limit) = Idle w.number w.incarnation
work_frame w (Limited name) = Done (own_attempt w name) told.Limit
work_frame w (Found name answer bytes noted) = Done (own_attempt w name) (told.Decided (finding_of answer (length bytes)))

-- the frame of a worker without a noted offset: Want for the candidate's next bytes, if there is a candidate
abbrev pub candidate_frame : WorkerState → Option Candidate → Frame
candidate_frame w (Some c) = Want c.session w.number (length c.evidence.bytes)
candidate_frame w None = work_frame w w.work

-- the frame of a worker by its work: with a noted offset, Piece with the evidence from that offset on
abbrev pub noted_frame : WorkerState → Work → Frame
noted_frame w (Found name answer bytes (Some offset)) = Piece (own_attempt w name) offset (take chunk (drop offset bytes))
noted_frame w (Found name answer bytes None) = candidate_frame w w.candidate
noted_frame w (Limited name) = candidate_frame w w.candidate
noted_frame w (Pending name cube limit) = candidate_frame w w.candidate
noted_frame w Free = candidate_frame w w.candidate

-- the frame that a worker sends at its next poll
abbrev pub worker_frame : WorkerState → Frame
worker_frame w = noted_frame w w.work

-- the work with the noted offset cleared
abbrev pub without_note : Work → Work
without_note (Found name answer bytes noted) = Found name answer bytes None
without_note (Limited name) = Limited name
without_note (Pending name cube limit) = Pending name cube limit
without_note Free = Free

-- the worker after it sent its frame
abbrev pub worker_after : WorkerState → WorkerState
worker_after w = record w { work = without_note w.work }

-- The worker is polled: it sends its frame and clears the noted offset, or memory for the frame was refused.
pub data WorkerPolls (w : WorkerState) (given : Given) (new : WorkerState) : Type 0 where
  sends : given ≡ Sent (worker_frame w) → new ≡ worker_after w → WorkerPolls w given new
  no_memory : FrameNeedsMemory (worker_frame w) → given ≡ Reacted reaction.NoMemory → new ≡ w → WorkerPolls w given new

-- One event at a worker, with its output and the next state, by cases. `Polled` has no use for its number: a worker sends to the
-- coordinator alone. `Lost` is no event of a worker.
abbrev pub WorkerStep : WorkerState → Event → Given → WorkerState → Type 0
WorkerStep w (Delivered frame) (Reacted answer) new = WorkerDelivers w frame answer new
WorkerStep w Worked (Reacted answer) new = WorkerWorks w answer new
WorkerStep w (Polled worker) given new = WorkerPolls w given new
WorkerStep w (Delivered frame) (Sent sent) new = ⊥
WorkerStep w (Delivered frame) Silent new = ⊥
WorkerStep w Worked (Sent sent) new = ⊥
WorkerStep w Worked Silent new = ⊥
WorkerStep w (Lost worker) given new = ⊥
