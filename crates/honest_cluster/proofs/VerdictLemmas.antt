-- A verdict that is held stays until its node is restarted.
use Rattle.std.proofs.Common.{[], ◌∷◌, ◌≡◌, ◌≢◌, ℕ, zero, suc, List, Option, Some, None, slice_get, slice_set, refl, subst, sym, ap, ◌∙◌, ◌⊎◌, inl, inr}
use Rattle.std.proofs.lemmas.Bool.{cases_eq}
use Rattle.std.proofs.lemmas.Option.{slice_get_within}
use Rattle.lrat_check.specs.declared.verdict.Reaction.{Reaction}
use Rattle.lrat_check.specs.declared.verdict.Reaction.TheVariants as reaction
use Rattle.lrat_check.specs.declared.verdict.Verdict.{Verdict}
use Rattle.lrat_check.specs.declared.verdict.Verdict.TheVariants.{Nothing}
use Rattle.frames.specs.declared.frame.Frame.{Frame}
use Rattle.evidence.specs.Events.{Event, Given, Reacted}
use Rattle.worker_core.specs.Worker.{WorkerState, WorkerStep, restarted_worker}
use Rattle.coordinator_core.specs.Coordinator.{CoordinatorState, CoordinatorStep}
use Rattle.honest_cluster.specs.declared.event.ClosedEvent.{ClosedEvent}
use Rattle.honest_cluster.specs.declared.event.ClosedEvent.TheVariants.{Deliver, Work as WorkEvent, Poll as PollEvent, Restart}
use Rattle.honest_cluster.specs.ClosedSchedule.{ClosedState, StepsAt, RestartsAt, HappensDeliver, HappensWork, HappensPoll, HappensRestart, HappensClosed, with_coordinator, with_worker, with_frame, with_number, held_by, verdict_at}
use Rattle.honest_cluster.specs.ClosedLaws.{VerdictsStay, RestartsDrop, NothingChanges}
use Rattle.honest_cluster.proofs.Places.{got_set_other, got_set_same, same_some, none_some}

-- every step of a node keeps the verdict that it holds
abbrev pub WorkersHold : Type 0
WorkersHold = (old : WorkerState) (event : Event) (given : Given) (new : WorkerState) → WorkerStep old event given new → old.verdict ≢ Nothing → new.verdict ≡ old.verdict

abbrev pub CoordinatorsHold : Type 0
CoordinatorsHold = (old : CoordinatorState) (event : Event) (given : Given) (new : CoordinatorState) → CoordinatorStep old event given new → old.verdict ≢ Nothing → new.verdict ≡ old.verdict

-- an entry at another place is unchanged
other_held : (workers : List WorkerState) (i place : ℕ) (w : WorkerState) (v : Verdict) (o : Option WorkerState) → place ≢ i → slice_get workers place ≡ o → held_by o ≡ Some v
    → held_by (slice_get (slice_set workers i w) place) ≡ Some v
other_held workers i place w v None apart at held = absurd (none_some v held)
other_held workers i place w v (Some u) apart at held = ap held_by (got_set_other workers i place w u apart at) ∙ held

-- one event at a node changes no verdict that is held
step_holds : WorkersHold → CoordinatorsHold → (s : ClosedState) (node : ℕ) (event : Event) (given : Given) (new : ClosedState) → StepsAt s node event given new
    → (k : ℕ) (v : Verdict) → verdict_at s k ≡ Some v → v ≢ Nothing → verdict_at new k ≡ Some v
step_holds workers coordinators s zero event given new (c, step, now) zero v held some =
    let same : s.coordinator.verdict ≡ v = same_some s.coordinator.verdict v held in
    let stays : c.verdict ≡ s.coordinator.verdict = coordinators s.coordinator event given c step (λ e. some (sym same ∙ e)) in
    subst (λ (n : ClosedState). verdict_at n 0 ≡ Some v) (sym now) (ap (λ (x : Verdict). Some x) (stays ∙ same))
step_holds workers coordinators s zero event given new (c, step, now) (suc place) v held some = subst (λ (n : ClosedState). verdict_at n (suc place) ≡ Some v) (sym now) held
step_holds workers coordinators s (suc i) event given new (w, u, there, step, now) zero v held some = subst (λ (n : ClosedState). verdict_at n 0 ≡ Some v) (sym now) held
step_holds workers coordinators s (suc i) event given new (w, u, there, step, now) (suc place) v held some =
    subst (λ (n : ClosedState). verdict_at n (suc place) ≡ Some v) (sym now) (go (cases_eq place i))
  where
    mine : place ≡ i → held_by (slice_get (slice_set s.workers i u) i) ≡ Some v
    mine at =
        let same : w.verdict ≡ v = same_some w.verdict v (sym (ap held_by (ap (slice_get s.workers) at ∙ there)) ∙ held) in
        let stays : u.verdict ≡ w.verdict = workers w event given u step (λ e. some (sym same ∙ e)) in
        ap held_by (got_set_same s.workers i u (slice_get_within s.workers i w there)) ∙ ap (λ (x : Verdict). Some x) (stays ∙ same)

    go : (place ≡ i) ⊎ (place ≡ i → ⊥) → held_by (slice_get (slice_set s.workers i u) place) ≡ Some v
    go (inl at) = ap (λ (k : ℕ). held_by (slice_get (slice_set s.workers i u) k)) at ∙ mine at
    go (inr apart) = other_held s.workers i place u v (slice_get s.workers place) apart refl held

-- nor does a frame or a number that is appended to its list
frame_holds : (s : ClosedState) (frame : Frame) (k : ℕ) → verdict_at (with_frame s frame) k ≡ verdict_at s k
frame_holds s frame zero = refl
frame_holds s frame (suc place) = refl

number_holds : (s : ClosedState) (number k : ℕ) → verdict_at (with_number s number) k ≡ verdict_at s k
number_holds s number zero = refl
number_holds s number (suc place) = refl

-- a restart does not change the verdicts of other nodes
others_hold : (s : ClosedState) (node number : ℕ) (new : ClosedState) → RestartsAt s node number new → (k : ℕ) (v : Verdict) → k ≢ node → verdict_at s k ≡ Some v → verdict_at new k ≡ Some v
others_hold s zero number new now zero v apart held = absurd (apart refl)
others_hold s zero number new now (suc place) v apart held = subst (λ (n : ClosedState). verdict_at n (suc place) ≡ Some v) (sym now) held
others_hold s (suc i) number new (w, there, now) zero v apart held = subst (λ (n : ClosedState). verdict_at n 0 ≡ Some v) (sym now) held
others_hold s (suc i) number new (w, there, now) (suc place) v apart held =
    subst (λ (n : ClosedState). verdict_at n (suc place) ≡ Some v) (sym now)
    (other_held s.workers i place (restarted_worker w number) v (slice_get s.workers place) (λ e. apart (ap suc e)) refl held)

-- and drops that of its node
drops : (s : ClosedState) (node number : ℕ) (new : ClosedState) → RestartsAt s node number new → verdict_at new node ≡ Some Nothing
drops s zero number new now = subst (λ (n : ClosedState). verdict_at n 0 ≡ Some Nothing) (sym now) refl
drops s (suc i) number new (w, there, now) =
    subst (λ (n : ClosedState). verdict_at n (suc i) ≡ Some Nothing) (sym now)
    (ap held_by (got_set_same s.workers i (restarted_worker w number) (slice_get_within s.workers i w there)))

-- the verdict of a node is unchanged, or the node was restarted
abbrev Holds : ClosedEvent → ℕ → Verdict → ClosedState → Type 0
Holds event k v new = (verdict_at new k ≡ Some v) ⊎ ((number : ℕ) × (event ≡ Restart k number))

unchanged : (event : ClosedEvent) (s new : ClosedState) (k : ℕ) (v : Verdict) → new ≡ s → verdict_at s k ≡ Some v → Holds event k v new
unchanged event s new k v same held = inl (subst (λ (n : ClosedState). verdict_at n k ≡ Some v) (sym same) held)

pub verdicts_stay : WorkersHold → CoordinatorsHold → VerdictsStay
verdicts_stay workers coordinators b s r event answer new happens k v held some = go event happens
  where
    delivers : (node place : ℕ) → HappensDeliver s node place answer new → Holds (Deliver node place) k v new
    delivers node place (HappensDeliver.is_ignored none ignored) = unchanged _ s new k v ignored.1 held
    delivers node place (HappensDeliver.delivers frame found step) = inl (step_holds workers coordinators s node _ _ new step k v held some)

    works : (node : ℕ) → HappensWork s node answer new → Holds (WorkEvent node) k v new
    works node (HappensWork.is_ignored none ignored) = unchanged _ s new k v ignored.1 held
    works node (HappensWork.works step) = inl (step_holds workers coordinators s node _ _ new step k v held some)

    polls : (node worker : ℕ) → HappensPoll s node worker answer new → Holds (PollEvent node worker) k v new
    polls node worker (HappensPoll.is_ignored none ignored) = unchanged _ s new k v ignored.1 held
    polls node worker (HappensPoll.no_memory poll a now) = unchanged _ s new k v now held
    polls node worker (HappensPoll.sends frame after step a now) =
        inl (subst (λ (n : ClosedState). verdict_at n k ≡ Some v) (sym now) (frame_holds after frame k ∙ step_holds workers coordinators s node _ _ after step k v held some))

    restarts : (node number : ℕ) → HappensRestart s node number answer new → Holds (Restart node number) k v new
    restarts node number (HappensRestart.is_ignored none ignored) = unchanged _ s new k v ignored.1 held
    restarts node number (HappensRestart.no_memory known fresh a now) = unchanged _ s new k v now held
    restarts node number (HappensRestart.anew after fresh anew a now) = either (cases_eq k node)
      where
        either : (k ≡ node) ⊎ (k ≡ node → ⊥) → Holds (Restart node number) k v new
        either (inl at) = inr (number, ap (λ (m : ℕ). Restart m number) (sym at))
        either (inr apart) =
            inl (subst (λ (n : ClosedState). verdict_at n k ≡ Some v) (sym now) (number_holds after number k ∙ others_hold s node number after anew k v apart held))

    go : (event : ClosedEvent) → HappensClosed s event answer new → Holds event k v new
    go (Deliver node place) h = delivers node place h
    go (WorkEvent node) h = works node h
    go (PollEvent node worker) h = polls node worker h
    go (Restart node number) h = restarts node number h

-- a worker that is written to its own place changes nothing
set_same : (workers : List WorkerState) (i : ℕ) (w : WorkerState) → slice_get workers i ≡ Some w → slice_set workers i w ≡ workers
set_same [] i w at = refl
set_same (v ∷ workers) zero w at = ap (λ (u : WorkerState). u ∷ workers) (sym (same_some v w at))
set_same (v ∷ workers) (suc i) w at = ap (λ (rest : List WorkerState). v ∷ rest) (set_same workers i w at)

-- nor does an event that a node answers by `Ignored` or `NoMemory`
abbrev pub IsIdle : Reaction → Type 0
IsIdle answer = (answer ≡ reaction.Ignored) ⊎ (answer ≡ reaction.NoMemory)

abbrev pub WorkersRest : Type 0
WorkersRest = (old : WorkerState) (event : Event) (given : Given) (new : WorkerState) → WorkerStep old event given new → (given ≡ Reacted reaction.Ignored) ⊎ (given ≡ Reacted reaction.NoMemory) → new ≡ old

abbrev pub CoordinatorsRest : Type 0
CoordinatorsRest = (old : CoordinatorState) (event : Event) (given : Given) (new : CoordinatorState) → CoordinatorStep old event given new → (given ≡ Reacted reaction.Ignored) ⊎ (given ≡ Reacted reaction.NoMemory) → new ≡ old

reacted : (answer : Reaction) → IsIdle answer → (Reacted answer ≡ Reacted reaction.Ignored) ⊎ (Reacted answer ≡ Reacted reaction.NoMemory)
reacted answer (inl e) = inl (ap Reacted e)
reacted answer (inr e) = inr (ap Reacted e)

step_rests : WorkersRest → CoordinatorsRest → (s : ClosedState) (node : ℕ) (event : Event) (answer : Reaction) (new : ClosedState) → StepsAt s node event (Reacted answer) new → IsIdle answer → new ≡ s
step_rests workers coordinators s zero event answer new (c, step, now) idle =
    now ∙ ap (with_coordinator s) (coordinators s.coordinator event (Reacted answer) c step (reacted answer idle))
step_rests workers coordinators s (suc i) event answer new (w, v, there, step, now) idle =
    let same : v ≡ w = workers w event (Reacted answer) v step (reacted answer idle) in
    now ∙ ap (with_worker s i) same ∙ ap (λ (ws : List WorkerState). record s { workers = ws }) (set_same s.workers i w there)

taken_is_not : (answer : Reaction) → answer ≡ reaction.Taken → IsIdle answer → ⊥
taken_is_not answer a (inl e) = never (sym a ∙ e)
  where
    never : reaction.Taken ≡ reaction.Ignored → ⊥
    never p = cc
taken_is_not answer a (inr e) = never (sym a ∙ e)
  where
    never : reaction.Taken ≡ reaction.NoMemory → ⊥
    never p = cc

pub nothing_changes : WorkersRest → CoordinatorsRest → NothingChanges
nothing_changes workers coordinators b s r event answer new happens idle = go event happens
  where
    delivers : (node place : ℕ) → HappensDeliver s node place answer new → new ≡ s
    delivers node place (HappensDeliver.is_ignored none ignored) = ignored.1
    delivers node place (HappensDeliver.delivers frame found step) = step_rests workers coordinators s node _ answer new step idle

    works : (node : ℕ) → HappensWork s node answer new → new ≡ s
    works node (HappensWork.is_ignored none ignored) = ignored.1
    works node (HappensWork.works step) = step_rests workers coordinators s node _ answer new step idle

    polls : (node worker : ℕ) → HappensPoll s node worker answer new → new ≡ s
    polls node worker (HappensPoll.is_ignored none ignored) = ignored.1
    polls node worker (HappensPoll.no_memory poll a now) = now
    polls node worker (HappensPoll.sends frame after step a now) = absurd (taken_is_not answer a idle)

    restarts : (node number : ℕ) → HappensRestart s node number answer new → new ≡ s
    restarts node number (HappensRestart.is_ignored none ignored) = ignored.1
    restarts node number (HappensRestart.no_memory known fresh a now) = now
    restarts node number (HappensRestart.anew after fresh anew a now) = absurd (taken_is_not answer a idle)

    go : (event : ClosedEvent) → HappensClosed s event answer new → new ≡ s
    go (Deliver node place) h = delivers node place h
    go (WorkEvent node) h = works node h
    go (PollEvent node worker) h = polls node worker h
    go (Restart node number) h = restarts node number h

pub restarts_drop : RestartsDrop
restarts_drop b s r node number new happens = go happens
  where
    not_ignored : reaction.Taken ≡ reaction.Ignored → ⊥
    not_ignored e = cc

    not_refused : reaction.Taken ≡ reaction.NoMemory → ⊥
    not_refused e = cc

    go : HappensRestart s node number reaction.Taken new → verdict_at new node ≡ Some Nothing
    go (HappensRestart.is_ignored none ignored) = absurd (not_ignored ignored.0)
    go (HappensRestart.no_memory known fresh a now) = absurd (not_refused a)
    go (HappensRestart.anew after fresh anew a now) =
        subst (λ (n : ClosedState). verdict_at n node ≡ Some Nothing) (sym now) (number_holds after number node ∙ drops s node number after anew)
