-- What the private functions of a coordinator promise in their contracts.
use Rattle.std.specs.Prelude.{◌≡◌, ◌≢◌, ℕ, Bool, true, false, List, take, Option, Some, None, Result, Ok, Err, ◌⊎◌}
use Rattle.lrat_text.specs.Log.{Closes}
use Rattle.lrat_check.specs.declared.verdict.Reaction.{Reaction}
use Rattle.lrat_check.specs.declared.verdict.Reaction.TheVariants as reaction
use Rattle.frames.specs.Answers.{answer_of}
use Rattle.frames.specs.declared.answer.Answer.{Answer}
use Rattle.frames.specs.declared.frame.Attempt.{Attempt}
use Rattle.frames.specs.declared.frame.Frame.{Frame}
use Rattle.evidence.specs.Evidence.{IsComplete, with_bytes}
use Rattle.evidence.specs.Events.{FrameNeedsMemory}
use Rattle.coordinator_core.specs.Coordinator.{CoordinatorState, Poll, IsDeciding, IsAwaited, IsFetched, coordinator_base, cube_at, job_at}
use Rattle.coordinator_core.specs.declared.done_idle.DoneClass.{DoneClass}
use Rattle.coordinator_core.specs.declared.done_idle.DoneClass.TheVariants.{Unexpected, FirstAnswer, Repeated, OtherIncarnation}
use Rattle.coordinator_core.specs.declared.job_state.Fixed.{Fixed}
use Rattle.coordinator_core.specs.declared.job_state.Job.{Job}

-- the Done from this attempt has this class
abbrev pub IsDoneClass : CoordinatorState → Attempt → DoneClass → Type 0
IsDoneClass c attempt Unexpected = (j : Job) → ¬ (IsAwaited c attempt.session attempt.job attempt.worker j)
IsDoneClass c attempt FirstAnswer = (j : Job) × IsAwaited c attempt.session attempt.job attempt.worker j × (j.fixed ≡ None)
IsDoneClass c attempt Repeated = (j : Job) × (x : Fixed) × IsFetched c attempt j x
IsDoneClass c attempt OtherIncarnation = (j : Job) × (x : Fixed) × IsAwaited c attempt.session attempt.job attempt.worker j × (j.fixed ≡ Some x) × (attempt.incarnation ≢ x.incarnation)

-- the coordinator is deciding, j is the worker's job, and x is what is fixed of the job
pub record IsFixed (c : CoordinatorState) (worker : ℕ) (j : Job) (x : Fixed) : Type 0 where
  pub deciding : IsDeciding c
  pub job : job_at c worker ≡ Some j
  pub fixed : j.fixed ≡ Some x

-- the worker has a job of which something is fixed
abbrev pub HasFixed : CoordinatorState → ℕ → Type 0
HasFixed c worker = (j : Job) × (x : Fixed) × IsFixed c worker j x

-- `None`: the evidence is incomplete; `Some answer`: it is complete, and is for this answer
abbrev pub IsWhole : Fixed → Option Answer → Type 0
IsWhole x None = ¬ (IsComplete x.evidence)
IsWhole x (Some answer) = IsComplete x.evidence × (answer_of x.evidence.finding ≡ answer)

-- the text closes the leaf's cube if the value is true, and does not close it if the value is false
abbrev pub ClosesIff : CoordinatorState → ℕ → List ℕ → Bool → Type 0
ClosesIff c leaf text true = Closes (coordinator_base c) (cube_at c leaf) text
ClosesIff c leaf text false = ¬ (Closes (coordinator_base c) (cube_at c leaf) text)

-- what is fixed, with these bytes instead of those of the evidence
abbrev pub fixed_with_bytes : Option Fixed → List ℕ → Option Fixed
fixed_with_bytes None bytes = None
fixed_with_bytes (Some x) bytes = Some (record x { evidence = record x.evidence { bytes = bytes } })

-- the job, with these bytes instead of those of its evidence
abbrev pub job_with_bytes : Job → List ℕ → Job
job_with_bytes j bytes = record j { fixed = fixed_with_bytes j.fixed bytes }

-- what is fixed, with more bytes appended to the evidence
abbrev pub fixed_with_more : Option Fixed → List ℕ → Option Fixed
fixed_with_more None bytes = None
fixed_with_more (Some x) bytes = Some (record x { evidence = with_bytes x.evidence bytes })

-- what is fixed, with the first `count` bytes of the evidence alone
abbrev pub fixed_cut_to : ℕ → Option Fixed → Option Fixed
fixed_cut_to count None = None
fixed_cut_to count (Some x) = Some (record x { evidence = record x.evidence { bytes = take count x.evidence.bytes } })

-- memory was refused and nothing changed, or P holds
abbrev pub UnlessNoMemory : CoordinatorState → Reaction → CoordinatorState → Type 0 → Type 0
UnlessNoMemory c answer new P = ((answer ≡ reaction.NoMemory) × (new ≡ c)) ⊎ P

-- if the call returned a frame, it is that of the poll p, and the new state is p's; else memory for the frame was refused and nothing
-- changed
abbrev pub IsPollResult : {E : Type 0} → CoordinatorState → Poll → Result Frame E → CoordinatorState → Type 0
IsPollResult c p (Ok frame) new = (frame ≡ p.frame) × (new ≡ p.after)
IsPollResult c p (Err fault) new = FrameNeedsMemory p.frame × (new ≡ c)
