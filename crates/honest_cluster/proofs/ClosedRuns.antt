-- Runs of a closed cluster of one worker, state by state.
use Rattle.std.proofs.Common.{◌≡◌, ℕ, zero, suc, ◌<◌, ◌≤◌, true, false, List, [], ◌∷◌, length, map, All, Some, None, Contains, refl, ap, inr, arith}
use Rattle.std.specs.Prelude.{slice_index_or}
use Rattle.std.proofs.lemmas.List.Elements.{All-nil, All-from_recursion}
use Rattle.dimacs.specs.logic.Cnf.{IsFormula}
use Rattle.dimacs.specs.logic.Literal.{Pos, Neg, IsWithin}
use Rattle.icnf.specs.Leaves.{Cube, leaf}
use Rattle.lrat_check.specs.declared.verdict.Verdict.TheVariants.{Model}
use Rattle.lrat_check.specs.declared.verdict.Reaction.TheVariants as reaction
use Rattle.frames.specs.declared.frame.Frame.{Frame}
use Rattle.frames.specs.declared.frame.Frame.TheVariants.{Task, Fetch, Piece, Idle}
use Rattle.cube_split.specs.Definitions.{base_with}
use Rattle.cube_split.specs.Pairs.{AreDefined}
use Rattle.evidence.specs.Jobs.{IsOverBase}
use Rattle.worker_core.specs.Worker.{WorkerState, WorkerPolls, new_worker, worker_after}
use Rattle.coordinator_core.specs.Coordinator.{CoordinatorState, CoordinatorPolls, CoordinatorDelivers, DeliversDone, IsAwaited, coordinator_poll, reopened}
use Rattle.coordinator_core.specs.Invariant.{IsTreeOf}
use Rattle.coordinator_core.specs.declared.job_state.Job.{Job}
use Rattle.honest_cluster.specs.ClosedSchedule.{ClosedState, HappensDeliver, HappensWork, HappensPoll, HappensRestart, RunsClosed, verdict_at}
use Rattle.honest_cluster.specs.ClosedLaws.{IsMoment}
use Rattle.honest_cluster.specs.Examples.{two, beginning, begun, Turn, Plays, whole_run, restart_run}
use Rattle.honest_cluster.proofs.ExampleLemmas.{attempt, done, c1, c2, c3, w0, w1, w2, w3, fixed_job, task_taken, finished, answer_fixed, answer_again, asked_for, decided, decided_again, idle_anew}
use Rattle.honest_cluster.proofs.Places.{same_some}

-- events with their reactions are a run
plays_run : (s : ClosedState) (turns : List Turn) (new : ClosedState) → Plays s turns new → RunsClosed s (map (λ t. t.event) turns) new
plays_run s [] new same = same
plays_run s (turn ∷ turns) new (mid, happens, plays) = (turn.answer, mid, happens, plays_run mid turns new plays)

-- the formula and the tree are within the limits
two_is : IsFormula two
two_is = record {
  vars = omega arith;
  clauses = omega arith;
  literals = omega arith;
  within = All-from_recursion (All (IsWithin 2)) two.clauses
      (All-from_recursion (IsWithin 2) (Pos 1 ∷ []) ((omega arith, omega arith), tt), (All-from_recursion (IsWithin 2) (Neg 2 ∷ []) ((omega arith, omega arith), tt), tt));
}

one_leaf : IsTreeOf (base_with two []) ([] ∷ [])
one_leaf = record {
  is_tree = record { leaves = leaf; count = omega arith; short = All-from_recursion (λ (c : Cube). length c ≤ 64) ([] ∷ []) (omega arith, tt) };
  inside = All-from_recursion (IsOverBase (base_with two [])) ([] ∷ []) (All-nil (IsWithin 2), tt);
  narrow = All-from_recursion (All (IsWithin 2000000)) ([] ∷ []) (All-nil (IsWithin 2000000), tt);
}

pub moment : (turns : List Turn) (new : ClosedState) → Plays begun turns new → IsMoment beginning new
moment turns new plays = record {
  formula = two_is;
  defined = record { defined = AreDefined.all; few = omega arith };
  initial_tree = one_leaf;
  some_worker = omega arith;
  few_workers = omega arith;
  events = map (λ t. t.event) turns;
  runs = plays_run begun turns new plays;
}

abbrev first_task : Frame
first_task = Task 1 1 100000 []

abbrev frames_1 : List Frame
frames_1 = first_task ∷ []

abbrev frames_2 : List Frame
frames_2 = first_task ∷ done ∷ []

abbrev frames_3 : List Frame
frames_3 = first_task ∷ done ∷ Fetch attempt 0 ∷ []

abbrev frames_4 : List Frame
frames_4 = first_task ∷ done ∷ Fetch attempt 0 ∷ Piece attempt 0 (1 ∷ 0 ∷ []) ∷ []

abbrev w4 : WorkerState
w4 = worker_after w3

abbrev at : CoordinatorState → WorkerState → List Frame → ClosedState
at c w frames = record { coordinator = c; workers = w ∷ []; frames = frames; used = 1 ∷ 2 ∷ [] }

one_of_one : (1 ≤ 1) × (1 ≤ 1)
one_of_one = (omega arith, omega arith)

whole : Plays begun whole_run (at c3 w4 frames_4)
whole = (at c1 w0 frames_1, HappensPoll.sends first_task (at c1 w0 []) (c1, (one_of_one, CoordinatorPolls.sends refl refl), refl) refl refl, (at c1 w1 frames_1, HappensDeliver.delivers first_task refl (w0, w1, refl, task_taken, refl), (at c1 w2 frames_1, HappensWork.works (w1, w2, refl, finished, refl), (at c1 w2 frames_2, HappensPoll.sends done (at c1 w2 frames_1) (w2, w2, refl, WorkerPolls.sends refl refl, refl) refl refl, (at c2 w2 frames_2, HappensDeliver.delivers done refl (c2, answer_fixed, refl), (at c2 w2 frames_2, HappensDeliver.delivers done refl (c2, answer_again, refl), (at c2 w2 frames_3, HappensPoll.sends (Fetch attempt 0) (at c2 w2 frames_2) (c2, (one_of_one, CoordinatorPolls.sends refl refl), refl) refl refl, (at c2 w3 frames_3, HappensDeliver.delivers (Fetch attempt 0) refl (w2, w3, refl, asked_for, refl), (at c2 w4 frames_4, HappensPoll.sends (Piece attempt 0 (1 ∷ 0 ∷ [])) (at c2 w4 frames_3) (w3, w4, refl, WorkerPolls.sends refl refl, refl) refl refl, (at c3 w4 frames_4, HappensDeliver.delivers (Piece attempt 0 (1 ∷ 0 ∷ [])) refl (c3, decided, refl), (at c3 w4 frames_4, HappensDeliver.delivers (Piece attempt 0 (1 ∷ 0 ∷ [])) refl (c3, decided_again, refl), refl)))))))))))

pub whole_is : (s : ClosedState) × Plays begun whole_run s × IsMoment beginning s × (verdict_at s 0 ≡ Some (Model (true ∷ false ∷ [])))
whole_is = (at c3 w4 frames_4, whole, moment whole_run _ whole, refl)

-- the worker is restarted under number 3, and the coordinator gives the leaf again
abbrev v0 : WorkerState
v0 = new_worker two 1 3

abbrev c4 : CoordinatorState
c4 = reopened c2 1 fixed_job

abbrev c5 : CoordinatorState
c5 = (coordinator_poll c4 1).after

abbrev next_task : Frame
next_task = Task 1 2 100000 []

abbrev idle_frames : List Frame
idle_frames = first_task ∷ done ∷ Idle 1 3 ∷ []

abbrev last_frames : List Frame
last_frames = first_task ∷ done ∷ Idle 1 3 ∷ next_task ∷ []

abbrev after : CoordinatorState → WorkerState → List Frame → ClosedState
after c w frames = record { coordinator = c; workers = w ∷ []; frames = frames; used = 1 ∷ 2 ∷ 3 ∷ [] }

abbrev first_numbers : List ℕ
first_numbers = 1 ∷ 2 ∷ []

unused : ¬ (Contains first_numbers 3)
unused h = go h.0 h.1 h.2
  where
    go : (i : ℕ) → i < 2 → slice_index_or first_numbers i 3 ≡ 3 → ⊥
    go zero lt e = absurd (omega (arith, e))
    go (suc zero) lt e = absurd (omega (arith, e))
    go (suc (suc i)) lt e = absurd (omega (arith, lt))

-- a Done of the job before is not of this job
other_job : CoordinatorDelivers c5 done reaction.Ignored c5
other_job = DeliversDone.is_ignored (λ j awaited. not_this j awaited) refl refl
  where
    not_this : (j : Job) → IsAwaited c5 1 1 1 j → ⊥
    not_this j awaited =
        let there : Some (record { number = 2; leaf = 0; fixed = None }) ≡ Some j = awaited.job in
        let number : 2 ≡ j.number = ap (λ (i : Job). i.number) (same_some _ j there) in
        let asked : 1 ≡ j.number = awaited.number_is in
        absurd (omega (arith, number, asked))

again : Plays begun restart_run (after c5 v0 last_frames)
again = (at c1 w0 frames_1, HappensPoll.sends first_task (at c1 w0 []) (c1, (one_of_one, CoordinatorPolls.sends refl refl), refl) refl refl, (at c1 w1 frames_1, HappensDeliver.delivers first_task refl (w0, w1, refl, task_taken, refl), (at c1 w2 frames_1, HappensWork.works (w1, w2, refl, finished, refl), (at c1 w2 frames_2, HappensPoll.sends done (at c1 w2 frames_1) (w2, w2, refl, WorkerPolls.sends refl refl, refl) refl refl, (at c2 w2 frames_2, HappensDeliver.delivers done refl (c2, answer_fixed, refl), (after c2 v0 frames_2, HappensRestart.anew (at c2 v0 frames_2) unused (w2, refl, refl) refl refl, (after c2 v0 frames_2, HappensRestart.is_ignored (inr (2, omega arith, refl)) (refl, refl), (after c2 v0 idle_frames, HappensPoll.sends (Idle 1 3) (after c2 v0 frames_2) (v0, v0, refl, WorkerPolls.sends refl refl, refl) refl refl, (after c4 v0 idle_frames, HappensDeliver.delivers (Idle 1 3) refl (c4, idle_anew, refl), (after c5 v0 last_frames, HappensPoll.sends next_task (after c5 v0 idle_frames) (c5, (one_of_one, CoordinatorPolls.sends refl refl), refl) refl refl, (after c5 v0 last_frames, HappensDeliver.delivers done refl (c5, other_job, refl), refl)))))))))))

pub again_is : (s : ClosedState) × Plays begun restart_run s × IsMoment beginning s × (s.frames ≡ first_task ∷ done ∷ Idle 1 3 ∷ next_task ∷ [])
again_is = (after c5 v0 last_frames, again, moment restart_run _ again, refl)
