-- The laws of closed schedules: no reaction is a refusal, and complete evidence is a verdict or closes its leaf.
use Rattle.std.specs.Prelude.{◌≡◌, ◌≢◌, ℕ, suc, ◌≤◌, ◌^◌, true, List, ◌++◌, length, Contains, Some, None, slice_get, slice_index_or, ◌⊎◌}
use Rattle.dimacs.specs.logic.Cnf.{Cnf, IsFormula}
use Rattle.icnf.specs.Leaves.{Cube}
use Rattle.lrat_check.specs.Verdicts.{Right, Differ}
use Rattle.lrat_check.specs.declared.verdict.Reaction.{Reaction}
use Rattle.lrat_check.specs.declared.verdict.Reaction.TheVariants as reaction
use Rattle.lrat_check.specs.declared.verdict.Verdict.{Verdict}
use Rattle.lrat_check.specs.declared.verdict.Verdict.TheVariants.{Nothing}
use Rattle.frames.specs.Answers.{answer_of, length_of}
use Rattle.frames.specs.declared.answer.Answer.{Answer}
use Rattle.frames.specs.declared.answer.Answer.TheVariants as answers
use Rattle.frames.specs.declared.answer.Finding.{Finding}
use Rattle.frames.specs.declared.answer.Ending.{Ending}
use Rattle.frames.specs.declared.answer.Ending.TheVariants as told
use Rattle.frames.specs.declared.frame.Attempt.{Attempt}
use Rattle.frames.specs.declared.frame.Frame.{Frame}
use Rattle.frames.specs.declared.frame.Frame.TheVariants.{Task, Done, Piece, Part, Verdict as VerdictFrame}
use Rattle.cube_split.specs.Definitions.{base_with}
use Rattle.cube_split.specs.Pairs.{AreOf}
use Rattle.proof_join.specs.Definitions.{JoinedOver}
use Rattle.evidence.specs.Evidence.{IsComplete, with_bytes}
use Rattle.worker_core.specs.Worker.{WorkerState, IsNextPart, IsNewVerdict}
use Rattle.worker_core.specs.declared.candidate.Candidate.{Candidate}
use Rattle.coordinator_core.specs.Coordinator.{CoordinatorState, AreClosed, CanSplit, IsNextPiece, IsAwaited}
use Rattle.coordinator_core.specs.Invariant.{HasJoined, IsTreeOf}
use Rattle.coordinator_core.specs.declared.job_state.Fixed.{Fixed}
use Rattle.coordinator_core.specs.declared.job_state.Job.{Job}
use Rattle.coordinator_core.specs.declared.job_state.LeafState.TheVariants.{Closed}
use Rattle.honest_cluster.specs.ClosedSchedule.{Beginning, ClosedState, HappensClosed, RunsClosed, new_closed, verdict_at}
use Rattle.honest_cluster.specs.declared.event.ClosedEvent.{ClosedEvent}
use Rattle.honest_cluster.specs.declared.event.ClosedEvent.TheVariants.{Deliver, Restart}

-- s is a moment of a closed schedule that begins with b: b has definitions of its formula, a tree over the variables of the base and 1 to
-- 64 workers, and some events lead from the new cluster to s
pub record IsMoment (b : Beginning) (s : ClosedState) : Type 0 where
  pub formula : IsFormula b.formula
  pub defined : AreOf b.formula b.definitions
  pub initial_tree : IsTreeOf (base_with b.formula b.definitions.pairs) b.tree
  pub some_worker : 1 ≤ b.workers
  pub few_workers : b.workers ≤ 64
  pub events : List ClosedEvent
  pub runs : RunsClosed (new_closed b) events s

-- P holds of the formula and the state at every moment of every closed schedule
abbrev pub Always : (Cnf → ClosedState → Type 0) → Type 0
Always P = (b : Beginning) (s : ClosedState) → IsMoment b s → P b.formula s

-- P holds of every event at every moment of every closed schedule, with its reaction and the next state
abbrev pub AtEvery : (ClosedState → ClosedEvent → Reaction → ClosedState → Type 0) → Type 0
AtEvery P = Always (λ F s. (event : ClosedEvent) (answer : Reaction) (new : ClosedState) → HappensClosed s event answer new → P s event answer new)

-- this frame of the list, which a poll returned, is delivered to the node
pub record DeliversFrame (s : ClosedState) (node : ℕ) (frame : Frame) (answer : Reaction) (new : ClosedState) : Type 0 where
  pub place : ℕ
  pub there : slice_get s.frames place ≡ Some frame
  pub happens : HappensClosed s (Deliver node place) answer new

-- No reaction is a refusal.
abbrev pub NeverRefused : Type 0
NeverRefused = AtEvery (λ s event answer new. (why : ℕ) → answer ≢ reaction.Refused why)

-- the reaction is `Verdict` or `NoMemory`
abbrev pub IsDecisive : Reaction → Type 0
IsDecisive answer = (answer ≡ reaction.NoMemory) ⊎ (answer ≡ reaction.Verdict)

-- `EndsBy answer leaf reaction new`: complete evidence of this answer at the leaf of this index ends as it should: if it is a refutation,
-- the leaf is closed in `new`; if it is an assignment, the reaction is `Verdict`
abbrev pub EndsBy : Answer → ℕ → Reaction → CoordinatorState → Type 0
EndsBy answers.Refuted leaf answer new = slice_get new.leaves leaf ≡ Some Closed
EndsBy answers.Assignment leaf answer new = answer ≡ reaction.Verdict

-- `EndsWell finding leaf reaction new`: complete evidence of this finding closes the leaf of this index (for a refutation) or is answered
-- by `Verdict` (for an assignment), unless memory is refused
abbrev pub EndsWell : Finding → ℕ → Reaction → CoordinatorState → Type 0
EndsWell finding leaf answer new = (answer ≡ reaction.NoMemory) ⊎ EndsBy (answer_of finding) leaf answer new

-- A Piece that completes the evidence of a job closes the job's leaf (for a refutation) or is answered by `Verdict` (for an assignment),
-- unless memory is refused.
abbrev pub PiecesEndWell : Type 0
PiecesEndWell = Always (λ F s. (attempt : Attempt) (offset : ℕ) (bytes : List ℕ) (j : Job) (x : Fixed) (answer : Reaction) (new : ClosedState)
    → DeliversFrame s 0 (Piece attempt offset bytes) answer new → IsNextPiece s.coordinator attempt offset bytes j x → IsComplete (with_bytes x.evidence bytes)
    → EndsWell x.evidence.finding j.leaf answer new.coordinator)

-- The first Done of a job that announces evidence of length 0, which is complete at once, closes the job's leaf (for a refutation) or is
-- answered by `Verdict` (for an assignment), unless memory is refused.
abbrev pub DonesEndWell : Type 0
DonesEndWell = Always (λ F s. (attempt : Attempt) (finding : Finding) (j : Job) (answer : Reaction) (new : ClosedState)
    → DeliversFrame s 0 (Done attempt (told.Decided finding)) answer new → IsAwaited s.coordinator attempt.session attempt.job attempt.worker j
    → j.fixed ≡ None → length_of finding ≡ 0 → EndsWell finding j.leaf answer new.coordinator)

-- A Part that completes a worker's candidate is answered by `Verdict` or `NoMemory`.
abbrev pub PartsEndWell : Type 0
PartsEndWell = Always (λ F s. (place : ℕ) (w : WorkerState) (session : ℕ) (part : Answer) (offset : ℕ) (bytes : List ℕ) (c : Candidate) (answer : Reaction) (new : ClosedState)
    → DeliversFrame s (suc place) (Part session part offset bytes) answer new → slice_get s.workers place ≡ Some w
    → IsNextPart w session part offset bytes c → IsComplete (with_bytes c.evidence bytes) → IsDecisive answer)

-- A Verdict frame that announces evidence of length 0, which is complete at once, is answered by `Verdict` or `NoMemory`.
abbrev pub VerdictsEndWell : Type 0
VerdictsEndWell = Always (λ F s. (place : ℕ) (w : WorkerState) (session : ℕ) (finding : Finding) (answer : Reaction) (new : ClosedState)
    → DeliversFrame s (suc place) (VerdictFrame session finding) answer new → slice_get s.workers place ≡ Some w
    → IsNewVerdict w session → length_of finding ≡ 0 → IsDecisive answer)

-- If every leaf is closed, the coordinator holds the joined proof, or it is stuck because that proof is too long.
abbrev pub ClosedIsJoined : Type 0
ClosedIsJoined = Always (λ F s. AreClosed s.coordinator.leaves → HasJoined s.coordinator)

-- some leaf of the coordinator is not closed and cannot be split
pub record HasUnsplittableLeaf (c : CoordinatorState) : Type 0 where
  -- the index of the leaf, counted from 0
  pub leaf : ℕ
  -- the leaf is not closed
  pub unclosed : slice_index_or c.leaves leaf Closed ≢ Closed
  -- it can be split by no variable v
  pub whole : (v : ℕ) → ¬ (CanSplit c leaf v)

-- among these frames there is a Done of the coordinator's session that tells that a search met its limit, and some leaf is not closed and
-- cannot be split
pub record HasMetLimit (frames : List Frame) (c : CoordinatorState) : Type 0 where
  pub attempt : Attempt
  pub told : Contains frames (Done attempt told.Limit)
  pub session : attempt.session ≡ c.session
  pub leaf : HasUnsplittableLeaf c

-- every leaf of the coordinator is closed, and the joined text has at least 2^32 bytes
pub record IsTooLong (c : CoordinatorState) : Type 0 where
  pub all : AreClosed c.leaves
  pub text : List ℕ
  pub joined : JoinedOver c.formula c.definitions.pairs c.tree c.fragments text
  pub long : 2 ^ 32 ≤ length text

-- in this state, if the coordinator is stuck, a search met its limit and some leaf cannot be split, or the joined text is too long
abbrev pub StuckRightly : ClosedState → Type 0
StuckRightly s = s.coordinator.stuck ≡ true → HasMetLimit s.frames s.coordinator ⊎ IsTooLong s.coordinator

-- A coordinator is stuck only if a search met its limit and some leaf cannot be split, or if the joined text is too long.
abbrev pub IsStuckRightly : Type 0
IsStuckRightly = Always (λ F s. StuckRightly s)

-- Each node's verdict is right for the formula.
abbrev pub AlwaysRight : Type 0
AlwaysRight = Always (λ F s. (node : ℕ) (v : Verdict) → verdict_at s node ≡ Some v → Right F v)

-- No two verdicts on one formula differ, at moments of one closed schedule or of two, whatever else these schedules begin with.
abbrev pub NeverDiffer : Type 0
NeverDiffer = Always (λ F s. (b : Beginning) (t : ClosedState) → b.formula ≡ F → IsMoment b t
    → (node other : ℕ) (v w : Verdict) → verdict_at s node ≡ Some v → verdict_at t other ≡ Some w → ¬ (Differ v w))

-- Each node has the formula that the cluster began with.
abbrev pub OneFormula : Type 0
OneFormula = Always (λ F s. (s.coordinator.formula ≡ F) × ((place : ℕ) (w : WorkerState) → slice_get s.workers place ≡ Some w → w.formula ≡ F))

-- Two Tasks of one session and job have the same limit and cube.
abbrev pub OneTask : Type 0
OneTask = Always (λ F s. (session job first second : ℕ) (p q : Cube)
    → Contains s.frames (Task session job first p) → Contains s.frames (Task session job second q) → (first ≡ second) × (p ≡ q))

-- Two Dones of one attempt have the same ending.
abbrev pub OneAnswer : Type 0
OneAnswer = Always (λ F s. (attempt : Attempt) (first second : Ending)
    → Contains s.frames (Done attempt first) → Contains s.frames (Done attempt second) → first ≡ second)

-- the text has these bytes from the offset on, counted from 0
pub record HasBytesAt (text : List ℕ) (offset : ℕ) (bytes : List ℕ) : Type 0 where
  pub before : List ℕ
  pub after : List ℕ
  pub whole : text ≡ before ++ (bytes ++ after)
  pub place : length before ≡ offset

-- Two Pieces of one attempt have bytes of one text, each from its offset on.
abbrev pub OneText : Type 0
OneText = Always (λ F s. (attempt : Attempt) (first second : ℕ) (p q : List ℕ)
    → Contains s.frames (Piece attempt first p) → Contains s.frames (Piece attempt second q) → (text : List ℕ) × HasBytesAt text first p × HasBytesAt text second q)

-- An event with the reaction `Ignored` or `NoMemory` changes nothing.
abbrev pub NothingChanges : Type 0
NothingChanges = AtEvery (λ s event answer new. (answer ≡ reaction.Ignored) ⊎ (answer ≡ reaction.NoMemory) → new ≡ s)

-- A verdict that a node holds stays under every event except a restart of that node.
abbrev pub VerdictsStay : Type 0
VerdictsStay = AtEvery (λ s event answer new. (node : ℕ) (v : Verdict) → verdict_at s node ≡ Some v → v ≢ Nothing
    → (verdict_at new node ≡ Some v) ⊎ ((number : ℕ) × (event ≡ Restart node number)))

-- After a restart that is taken, the node holds no verdict.
abbrev pub RestartsDrop : Type 0
RestartsDrop = Always (λ F s. (node number : ℕ) (new : ClosedState) → HappensClosed s (Restart node number) reaction.Taken new → verdict_at new node ≡ Some Nothing)
