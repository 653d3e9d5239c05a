-- The frames of a run over `p cnf 2 2`, `1 0`, `-2 0` with one worker and a tree of one leaf, and the reactions to wrong evidence.
use Rattle.std.proofs.Common.{◌≡◌, ℕ, zero, suc, ◌<◌, ◌≤◌, Bool, true, false, List, [], ◌∷◌, ◌++◌, Option, Some, None, Contains, refl, ap, subst, sym, ◌∙◌, arith}
use Rattle.std.specs.Prelude.{slice_index_or}
use Rattle.std.proofs.lemmas.List.Elements.{All-nil, All-from_recursion, All-head}
use Rattle.dimacs.specs.logic.Base.{base_of}
use Rattle.dimacs.specs.logic.Cnf.{Cnf, Sat, assignment_of}
use Rattle.dimacs.specs.logic.Literal.{Literal, Pos, Neg, IsTrueIn, IsWithin, literal_true}
use Rattle.cube_solve.specs.declared.outcome.Outcome.TheVariants as outcome
use Rattle.icnf.specs.Leaves.{Cube}
use Rattle.lrat_text.specs.Grammar.{SpellsStepWithin, LineSpellsWithin}
use Rattle.lrat_text.specs.Log.{Closes, log_top}
use Rattle.lrat_text.specs.declared.step.Step.{Step}
use Rattle.lrat_text.specs.declared.step.Step.TheVariants.{Add, Delete}
use Rattle.lrat_check.specs.Verdicts.{Right}
use Rattle.lrat_check.specs.declared.verdict.Verdict.{Verdict}
use Rattle.lrat_check.specs.declared.verdict.Verdict.TheVariants.{Nothing, Model, Proof}
use Rattle.lrat_check.specs.declared.verdict.Reaction.TheVariants as reaction
use Rattle.frames.specs.declared.answer.Answer.TheVariants as answers
use Rattle.frames.specs.declared.answer.Finding.TheVariants as findings
use Rattle.frames.specs.declared.answer.Ending.TheVariants as told
use Rattle.frames.specs.declared.frame.Attempt.{Attempt}
use Rattle.frames.specs.declared.frame.Frame.{Frame}
use Rattle.frames.specs.declared.frame.Frame.TheVariants.{Task, Done, Fetch, Piece, Verdict as VerdictFrame, Want, Part, Idle, Rest}
use Rattle.cube_split.specs.Choice.{Choice}
use Rattle.cube_split.specs.ChoiceWithDefinitions.{Chooses, IsChosen}
use Rattle.evidence.specs.Evidence.{IsRightEvidence, answer_in, bytes_in}
use Rattle.evidence.proofs.EvidenceLemmas.{borne_out, bears_out}
use Rattle.worker_core.specs.Worker.{WorkerState, new_worker, WorkerDelivers, WorkerWorks, worker_frame, worker_after, DeliversTask, DeliversFetch, DeliversVerdict, DeliversPart, ReceivesEvidence, IsNewVerdict, candidate_of}
use Rattle.worker_core.specs.declared.work.Work.TheVariants.{Free, Pending, Found}
use Rattle.coordinator_core.specs.Coordinator.{CoordinatorState, IsAwaited, ReceivesJobEvidence, CompletesFragment, CompletesAssignment, DeliversLimit, DeliversFirstDone, DeliversDone, DeliversPiece, DeliversIdle, CoordinatorDelivers, new_coordinator, coordinator_opening, coordinator_poll, first_answer, with_fixed, with_job, reopened, after_loss}
use Rattle.coordinator_core.specs.declared.job_state.Fixed.{Fixed}
use Rattle.coordinator_core.specs.declared.job_state.Job.{Job}
use Rattle.honest_cluster.specs.Examples.{two, four, asked, ninth}
use Rattle.honest_cluster.proofs.HistoryLemmas.{not_before_itself}
use Rattle.honest_cluster.proofs.Places.{none_some}

abbrev values : List Bool
values = true ∷ false ∷ []

abbrev pub attempt : Attempt
attempt = record { session = 1; job = 1; worker = 1; incarnation = 2 }

abbrev pub done : Frame
done = Done attempt (told.Decided (findings.Assignment 2))

-- the base has the two clauses twice
the_base : base_of two ≡ record { vars = 2; clauses = (Pos 1 ∷ []) ∷ (Neg 2 ∷ []) ∷ (Pos 1 ∷ []) ∷ (Neg 2 ∷ []) ∷ [] }
the_base = refl

first_true : IsTrueIn (assignment_of values) (Pos 1 ∷ [])
first_true = (Pos 1, (0, omega arith, refl), refl)

second_true : IsTrueIn (assignment_of values) (Neg 2 ∷ [])
second_true = (Neg 2, (0, omega arith, refl), refl)

satisfied : Sat (assignment_of values) two
satisfied = All-from_recursion (IsTrueIn (assignment_of values)) two.clauses (first_true, (second_true, tt))

base_satisfied : Sat (assignment_of values) (base_of two)
base_satisfied = All-from_recursion (IsTrueIn (assignment_of values)) (base_of two).clauses (first_true, (second_true, (first_true, (second_true, tt))))

-- the coordinator, polled once
abbrev pub c0 : CoordinatorState
c0 = new_coordinator two ([] ∷ []) 100000 1 1

abbrev pub c1 : CoordinatorState
c1 = (coordinator_poll c0 1).after

first_task : (coordinator_poll c0 1).frame ≡ Task 1 1 100000 []
first_task = refl

task_again : coordinator_poll c1 1 ≡ record { frame = Task 1 1 100000 []; after = c1 }
task_again = refl

-- the worker takes the Task, searches, and sends Done
abbrev pub w0 : WorkerState
w0 = new_worker two 1 2

abbrev pub w1 : WorkerState
w1 = record w0 { last = Some (record { session = 1; job = 1 }); work = Pending (record { session = 1; job = 1 }) [] 100000 }

abbrev pub w2 : WorkerState
w2 = record w1 { work = Found (record { session = 1; job = 1 }) answers.Assignment (1 ∷ 0 ∷ []) None }

worker_waits : worker_frame w0 ≡ Idle 1 2
worker_waits = refl

pub task_taken : WorkerDelivers w0 (Task 1 1 100000 []) reaction.Taken w1
task_taken = DeliversTask.taken tt (All-nil (IsWithin 2)) refl refl

-- the same Task again is ignored
task_repeated : WorkerDelivers w1 (Task 1 1 100000 []) reaction.Ignored w1
task_repeated = DeliversTask.repeated (not_before_itself (record { session = 1; job = 1 })) refl refl

-- a variable that is not one of the base
task_foreign : WorkerDelivers w0 (Task 1 1 100 (Pos 3 ∷ [])) (reaction.Refused 3) w0
task_foreign = DeliversTask.foreign tt (λ inside. let h : (0 < 3) × (3 ≤ 2) = inside 0 (Pos 1) (omega arith) in let k : 3 ≤ 2 = h.1 in absurd (omega (arith, k))) refl refl

pub finished : WorkerWorks w1 reaction.Finished w2
finished = WorkerWorks.finishes (record { session = 1; job = 1 }) [] 100000 refl (outcome.Model values)
    (record { whole = refl; base = base_satisfied; cube = λ l at. let lt : at.0 < 0 = at.1 in absurd (omega (arith, lt)) }) refl refl

nothing_waits : WorkerWorks w2 reaction.Ignored w2
nothing_waits = WorkerWorks.rests (λ name cube limit e. cc) refl refl

tells : worker_frame w2 ≡ done
tells = refl

-- the first Done is fixed, once
abbrev pub c2 : CoordinatorState
c2 = with_job c1 1 (Some (record { number = 1; leaf = 0; fixed = Some (record { incarnation = 2; evidence = record { finding = findings.Assignment 2; bytes = [] } }) }))

abbrev pub the_job : Job
the_job = record { number = 1; leaf = 0; fixed = None }

awaited : IsAwaited c1 1 1 1 the_job
awaited = record { deciding = record { undecided = refl; going = refl }; session_is = refl; job = refl; number_is = refl }

pub answer_fixed : CoordinatorDelivers c1 done reaction.Taken c2
answer_fixed = DeliversDone.first the_job awaited refl (DeliversFirstDone.fixes (findings.Assignment 2) refl (λ wrong. wrong refl) (ReceivesJobEvidence.waits (λ e. absurd (omega (arith, e))) refl refl))

abbrev pub fixed_job : Job
fixed_job = record { number = 1; leaf = 0; fixed = Some (record { incarnation = 2; evidence = record { finding = findings.Assignment 2; bytes = [] } }) }

awaited_then : IsAwaited c2 1 1 1 fixed_job
awaited_then = record { deciding = record { undecided = refl; going = refl }; session_is = refl; job = refl; number_is = refl }

pub answer_again : CoordinatorDelivers c2 done reaction.Ignored c2
answer_again = DeliversDone.again fixed_job (record { incarnation = 2; evidence = record { finding = findings.Assignment 2; bytes = [] } }) (record { awaited = awaited_then; fixed = refl; incarnation = refl }) refl refl

-- a length that is not the number of variables
pub wrong_length : CoordinatorDelivers (asked two) (Done ninth (told.Decided (findings.Assignment 3))) (reaction.Refused 2) (reopened (asked two) 1 (record { number = 1; leaf = 0; fixed = None }))
wrong_length = DeliversDone.first the_job (record { deciding = record { undecided = refl; going = refl }; session_is = refl; job = refl; number_is = refl }) refl
    (DeliversFirstDone.wrong_length (findings.Assignment 3) refl (λ e. absurd (omega (arith, e))) refl refl)

pub next_job : (coordinator_poll (reopened (asked two) 1 (record { number = 1; leaf = 0; fixed = None })) 1).frame ≡ Task 1 2 100000 []
next_job = refl

-- a lost link opens the leaf again
lost_job : (coordinator_poll (after_loss c2 1) 1).frame ≡ Task 1 2 100000 []
lost_job = refl

-- the limit makes the coordinator stuck: both variables have a pure literal, so that there is no variable to split on
limit_met : CoordinatorDelivers c1 (Done attempt told.Limit) reaction.Taken (record c1 { stuck = true })
limit_met = DeliversDone.first the_job awaited refl (DeliversFirstDone.limited refl (DeliversLimit.stops (λ v can. none v can.choice) refl refl))
  where
    apart : (v : Option ℕ) → Choice two (Pos 1 ∷ Neg 2 ∷ []) v → (w : ℕ) → v ≡ Some w → ⊥
    apart None choice w e = none_some w e
    apart (Some v) choice w e = let some : 0 < 0 = choice.some in absurd (omega (arith, some))

    none : (v : ℕ) → Chooses two (coordinator_opening c1) [] (Some v) → ⊥
    none v (IsChosen.defined i is_open lowest is) = none_some is_open.pair is_open.there
    none v (IsChosen.plain closed choice) = apart (Some v) choice v refl

stuck_rests : (coordinator_poll (record c1 { stuck = true }) 1).frame ≡ Rest
stuck_rests = refl

-- a restarted worker sends Idle, and the leaf is opened again; the next Task is of job 2
pub idle_anew : CoordinatorDelivers c2 (Idle 1 3) reaction.Taken (reopened c2 1 fixed_job)
idle_anew = DeliversIdle.anew fixed_job (record { deciding = record { undecided = refl; going = refl }; job = refl; other = (record { incarnation = 2; evidence = record { finding = findings.Assignment 2; bytes = [] } }, refl, λ e. absurd (omega (arith, e))) }) refl refl

task_anew : (coordinator_poll (reopened c2 1 fixed_job) 1).frame ≡ Task 1 2 100000 []
task_anew = refl

-- the bytes are delivered, and are a verdict
right_bytes : IsRightEvidence two answers.Assignment (1 ∷ 0 ∷ []) (Model values)
right_bytes = bears_out two answers.Assignment (1 ∷ 0 ∷ []) (Model values) (record { some = λ e. cc; answer_is = refl; bytes_are = refl }) (refl, satisfied)

abbrev pub full_job : Job
full_job = record { number = 1; leaf = 0; fixed = Some (record { incarnation = 2; evidence = record { finding = findings.Assignment 2; bytes = 1 ∷ 0 ∷ [] } }) }

abbrev pub c3 : CoordinatorState
c3 = record (with_job c2 1 (Some full_job)) { verdict = Model values }

pub decided : CoordinatorDelivers c2 (Piece attempt 0 (1 ∷ 0 ∷ [])) reaction.Verdict c3
decided = DeliversPiece.appends fixed_job (record { incarnation = 2; evidence = record { finding = findings.Assignment 2; bytes = [] } })
    (record { fetched = record { awaited = awaited_then; fixed = refl; incarnation = refl }; comes = record { next = refl; within = omega arith } })
    (ReceivesJobEvidence.assignment refl refl (CompletesAssignment.holds (Model values) right_bytes refl refl))

-- the same bytes again are ignored
pub decided_again : CoordinatorDelivers c3 (Piece attempt 0 (1 ∷ 0 ∷ [])) reaction.Ignored c3
decided_again = DeliversPiece.is_ignored (λ j x fits. not_now fits.fetched.awaited.deciding.undecided) refl refl
  where
    not_now : Model values ≡ Nothing → ⊥
    not_now e = cc

told_verdict : (coordinator_poll c3 1).frame ≡ VerdictFrame 1 (findings.Assignment 2)
told_verdict = refl

fetched : (coordinator_poll c2 1).frame ≡ Fetch attempt 0
fetched = refl

-- the worker gets a Fetch, and sends a Piece
abbrev pub w3 : WorkerState
w3 = record w2 { work = Found (record { session = 1; job = 1 }) answers.Assignment (1 ∷ 0 ∷ []) (Some 0) }

pub asked_for : WorkerDelivers w2 (Fetch attempt 0) reaction.Taken w3
asked_for = DeliversFetch.notes answers.Assignment (1 ∷ 0 ∷ []) (record { noted = None; work = refl; worker = refl; incarnation = refl; within = omega arith }) refl refl

-- a restarted worker keeps no such bytes
asked_anew : WorkerDelivers (new_worker two 1 3) (Fetch attempt 0) reaction.Ignored (new_worker two 1 3)
asked_anew = DeliversFetch.is_ignored (λ found bytes keeps. not_kept found bytes keeps.noted keeps.work) refl refl
  where
    not_kept : (found : _) (bytes : List ℕ) (noted : Option ℕ) → Free ≡ Found (record { session = 1; job = 1 }) found bytes noted → ⊥
    not_kept found bytes noted e = cc

sends : worker_frame w3 ≡ Piece attempt 0 (1 ∷ 0 ∷ [])
sends = refl

then_tells : worker_frame (worker_after w3) ≡ done
then_tells = refl

-- a wrong candidate is dropped, and one of a later session is taken
abbrev w4 : WorkerState
w4 = record w0 { candidate = Some (candidate_of 1 (findings.Assignment 2)) }

news : IsNewVerdict w0 1
news = record { undecided = refl; later = λ c e. absurd (none_some c e) }

verdict_announced : WorkerDelivers w0 (VerdictFrame 1 (findings.Assignment 2)) reaction.Taken w4
verdict_announced = DeliversVerdict.begins news (λ wrong. wrong refl) (ReceivesEvidence.waits (λ e. absurd (omega (arith, e))) refl refl)

wants_it : worker_frame w4 ≡ Want 1 1 0
wants_it = refl

abbrev first_byte : List ℕ → ℕ
first_byte [] = 0
first_byte (b ∷ bs) = b

both_false : (v : Verdict) → bytes_in v ≡ 0 ∷ 0 ∷ [] → answer_in v ≡ answers.Assignment → Right two v → ⊥
both_false Nothing bytes answer right = cc
both_false (Proof text) bytes answer right = cc
both_false (Model []) bytes answer right = cc
both_false (Model (true ∷ rest)) bytes answer right = let one : 1 ≡ 0 = ap first_byte bytes in absurd (omega (arith, one))
both_false (Model (false ∷ rest)) bytes answer right = first (All-head (IsTrueIn (assignment_of (false ∷ rest))) (Pos 1 ∷ []) ((Neg 2 ∷ []) ∷ []) right.1)
  where
    is_one : (l : Literal) (k : ℕ) → k < 1 → slice_index_or (Pos 1 ∷ []) k l ≡ l → Pos 1 ≡ l
    is_one l zero lt e = e
    is_one l (suc k) lt e = absurd (omega (arith, lt))

    first : IsTrueIn (assignment_of (false ∷ rest)) (Pos 1 ∷ []) → ⊥
    first h =
        let same : Pos 1 ≡ h.0 = is_one h.0 h.1.0 h.1.1 h.1.2 in
        let now : literal_true (assignment_of (false ∷ rest)) (Pos 1) ≡ true = ap (literal_true (assignment_of (false ∷ rest))) same ∙ h.2 in
        let e : false ≡ true = now in cc

wrong_part : WorkerDelivers w4 (Part 1 answers.Assignment 0 (0 ∷ 0 ∷ [])) (reaction.Refused 2) w0
wrong_part = DeliversPart.appends (candidate_of 1 (findings.Assignment 2))
    (record { undecided = refl; there = refl; session_is = refl; answer_is = refl; comes = record { next = refl; within = omega arith } })
    (ReceivesEvidence.wrong refl (λ v e. let borne = borne_out two answers.Assignment (0 ∷ 0 ∷ []) v e.bears in both_false v borne.bytes_are borne.answer_is e.right) refl refl)

-- the bytes of `x` and LF spell no steps that close a cube, since a step has three tokens at least
abbrev rest_of : {X : Type 0} → List X → List X
rest_of [] = []
rest_of (x ∷ xs) = xs

abbrev second_byte : List ℕ → ℕ
second_byte bytes = first_byte (rest_of bytes)

none_last : {X : Type 0} (xs : List X) (y : X) (ys : List X) → [] ≡ xs ++ y ∷ ys → ⊥
none_last [] y ys e = cc
none_last (x ∷ xs) y ys e = cc

no_step : (most : ℕ) (step : Step) → SpellsStepWithin most (120 ∷ []) step → ⊥
no_step most (Add id lits hints groups) s = none_last _ _ _ (ap rest_of s.spelled)
no_step most (Delete ids) s = none_last [] _ _ (ap rest_of s.spelled)

no_line : (most : ℕ) (step : Step) (line rest : List ℕ) → 120 ∷ 10 ∷ [] ≡ line ++ 10 ∷ rest → ¬ (Contains line 10) → SpellsStepWithin most line step → ⊥
no_line most step [] rest e none spells = let h : 120 ≡ 10 = ap first_byte e in absurd (omega (arith, h))
no_line most step (a ∷ []) rest e none spells = let h : 120 ≡ a = ap first_byte e in no_step most step (subst (λ (b : ℕ). SpellsStepWithin most (b ∷ []) step) (sym h) spells)
no_line most step (a ∷ b ∷ line) rest e none spells = let h : 10 ≡ b = ap second_byte e in none (1, omega arith, sym h)

closes_nothing : (B : Cnf) (q : Cube) → Closes B q (120 ∷ 10 ∷ []) → ⊥
closes_nothing B q closes = go closes.0 closes.1
  where
    go : (steps : List Step) → LineSpellsWithin (log_top B) (120 ∷ 10 ∷ []) steps → ⊥
    go [] spells = cc
    go (step ∷ steps) spells = no_line (log_top B) step spells.0 spells.1 spells.2 spells.3 spells.4

-- so a coordinator refuses them, and gives the leaf again
abbrev fixed_9 : Fixed
fixed_9 = first_answer 9 (findings.Refuted 2)

abbrev asked_9 : CoordinatorState
asked_9 = with_job (asked four) 1 (Some (with_fixed the_job fixed_9))

awaited_9 : IsAwaited asked_9 1 1 1 (with_fixed the_job fixed_9)
awaited_9 = record { deciding = record { undecided = refl; going = refl }; session_is = refl; job = refl; number_is = refl }

pub no_log : (c d : CoordinatorState) × CoordinatorDelivers (asked four) (Done ninth (told.Decided (findings.Refuted 2))) reaction.Taken c
    × CoordinatorDelivers c (Piece ninth 0 (120 ∷ 10 ∷ [])) (reaction.Refused 1) d × ((coordinator_poll d 1).frame ≡ Task 1 2 100000 [])
no_log = (
  asked_9,
  reopened asked_9 1 (with_fixed the_job fixed_9),
  DeliversDone.first the_job (record { deciding = record { undecided = refl; going = refl }; session_is = refl; job = refl; number_is = refl }) refl
      (DeliversFirstDone.fixes (findings.Refuted 2) refl (λ wrong. wrong) (ReceivesJobEvidence.waits (λ e. absurd (omega (arith, e))) refl refl)),
  DeliversPiece.appends (with_fixed the_job fixed_9) fixed_9 (record { fetched = record { awaited = awaited_9; fixed = refl; incarnation = refl }; comes = record { next = refl; within = omega arith } })
      (ReceivesJobEvidence.fragment refl refl (CompletesFragment.wrong (closes_nothing (base_of four) []) refl refl)),
  refl,
)
