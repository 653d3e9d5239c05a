-- Every open schedule keeps nodes sound, and changes formulas only by added clauses.
use Rattle.std.proofs.Common.{◌≡◌, ℕ, zero, suc, Option, None, Some, List, [], ◌∷◌, ◌++◌, Result, Ok, Err, slice_get, slice_set, MatchOption, refl, subst, sym, ap, ◌∙◌}
use Rattle.std.proofs.lemmas.List.Elements.{All-set}
use Rattle.std.proofs.lemmas.Option.{slice_get_within, get_or_from_slice_get}
use Rattle.dimacs.specs.logic.Cnf.{Cnf}
use Rattle.lrat_check.specs.Verdicts.{Right}
use Rattle.lrat_check.specs.declared.verdict.Reaction.{Reaction}
use Rattle.lrat_check.specs.declared.verdict.Reaction.TheVariants as reaction
use Rattle.evidence.specs.Events.{Event, Delivered, Worked, Polled, Given, Reacted, Sent, Ignores, given_by}
use Rattle.frames.specs.declared.frame.Frame.{Frame}
use Rattle.evidence.specs.KeptVerdict.{formula_after}
use Rattle.worker_core.specs.AddedClauses.{ExtendsWorker}
use Rattle.worker_core.specs.Worker.{WorkerState, WorkerStep}
use Rattle.coordinator_core.specs.AddedClauses.{ExtendsCoordinator}
use Rattle.coordinator_core.specs.Coordinator.{CoordinatorState, CoordinatorStep, restarted_coordinator}
use Rattle.coordinator_core.specs.Invariant.{IsCoordinator}
use Rattle.cluster.specs.declared.event.OpenEvent.{OpenEvent}
use Rattle.cluster.specs.declared.event.OpenEvent.TheVariants.{Deliver, Work, Poll, Restart, Extend}
use Rattle.cluster.specs.declared.node.Node.{Node}
use Rattle.cluster.specs.declared.node.Node.TheVariants.{Worker, Coordinator}
use Rattle.cluster.specs.Formulas.{formula_after_event, changed_at, formulas_after_event, FormulasAlong}
use Rattle.cluster.specs.Nodes.{formula_of, IsSound, AreSound, formulas}
use Rattle.cluster.specs.OpenSchedule.{node_of, NodeStep, Delivers, Works, Polls, Restarts, Extends, restarted, Reacts, Happens, Runs}
use Rattle.cluster.specs.inner.Polls.{answer_to}

-- the laws of the machines, each by itself
pub record Keeping : Type 0 where
  pub worker : (old : WorkerState) (event : Event) (given : Given) (new : WorkerState) → WorkerStep old event given new → Right old.formula old.verdict → Right new.formula new.verdict
  pub worker_formula : (old : WorkerState) (event : Event) (given : Given) (new : WorkerState) → WorkerStep old event given new → new.formula ≡ old.formula
  pub coordinator : (old : CoordinatorState) (event : Event) (given : Given) (new : CoordinatorState) → IsCoordinator old → CoordinatorStep old event given new → IsCoordinator new
  pub coordinator_formula : (old : CoordinatorState) (event : Event) (given : Given) (new : CoordinatorState) → CoordinatorStep old event given new → new.formula ≡ old.formula
  pub longer_worker : (old : WorkerState) (x : Cnf) (number : ℕ) (answer : Reaction) (new : WorkerState) → ExtendsWorker old x number answer new → Right old.formula old.verdict → Right new.formula new.verdict
  pub longer_worker_formula : (old : WorkerState) (x : Cnf) (number : ℕ) (answer : Reaction) (new : WorkerState) → ExtendsWorker old x number answer new → new.formula ≡ formula_after x answer old.formula
  pub longer_coordinator : (old : CoordinatorState) (x : Cnf) (number : ℕ) (answer : Reaction) (new : CoordinatorState) → IsCoordinator old → ExtendsCoordinator old x number answer new → IsCoordinator new
  pub longer_coordinator_formula : (old : CoordinatorState) (x : Cnf) (number : ℕ) (answer : Reaction) (new : CoordinatorState) → ExtendsCoordinator old x number answer new → new.formula ≡ formula_after x answer old.formula
  pub anew : (c : CoordinatorState) (session : ℕ) → IsCoordinator c → IsCoordinator (restarted_coordinator c session)

-- a node stays sound, and its formula is unchanged
pub record Keeps (old new : Node) : Type 0 where
  pub sound : IsSound old → IsSound new
  pub formula : formula_of new ≡ formula_of old

-- or its formula is the one after the event
pub record Goes (event : OpenEvent) (answer : Reaction) (old new : Node) : Type 0 where
  pub sound : IsSound old → IsSound new
  pub formula : formula_of new ≡ formula_after_event event answer (formula_of old)

stays : (old new : Node) → new ≡ old → Keeps old new
stays old new same = record { sound = λ is. subst IsSound (sym same) is; formula = ap formula_of same }

same_some : {X : Type 0} (a b : X) → Some a ≡ Some b → a ≡ b
same_some a b e = cc

none_some : {X : Type 0} (a : X) → None ≡ Some a → ⊥
none_some a e = cc

-- ---- the formulas of all nodes
changed_same : (k : ℕ) (change : Cnf → Cnf) (Fs : List Cnf) → ((F : Cnf) → change F ≡ F) → changed_at k change Fs ≡ Fs
changed_same k change [] same = refl
changed_same zero change (F ∷ Fs) same = ap (λ (G : Cnf). G ∷ Fs) (same F)
changed_same (suc k) change (F ∷ Fs) same = ap (λ (Gs : List Cnf). F ∷ Gs) (changed_same k change Fs same)

changed_set : (nodes : List Node) (k : ℕ) (n m : Node) (change : Cnf → Cnf) → slice_get nodes k ≡ Some n → formula_of m ≡ change (formula_of n) → formulas (slice_set nodes k m) ≡ changed_at k change (formulas nodes)
changed_set [] k n m change there now = absurd (none_some n there)
changed_set (a ∷ nodes) zero n m change there now = ap (λ (F : Cnf). F ∷ formulas nodes) (now ∙ ap (λ (b : Node). change (formula_of b)) (sym (same_some a n there)))
changed_set (a ∷ nodes) (suc k) n m change there now = ap (λ (Fs : List Cnf). formula_of a ∷ Fs) (changed_set nodes k n m change there now)

ignored_keeps : (event : OpenEvent) (F : Cnf) → formula_after_event event reaction.Ignored F ≡ F
ignored_keeps (Deliver node bytes) F = refl
ignored_keeps (Work node) F = refl
ignored_keeps (Poll node worker) F = refl
ignored_keeps (Restart node number) F = refl
ignored_keeps (Extend node x number) F = refl

module _ (k : Keeping) where
  step_keeps : (old : Node) (event : Event) (given : Given) (new : Node) → NodeStep old event given new → Keeps old new
  step_keeps (Worker w) event given new (v, step, is) = subst (Keeps (Worker w)) (sym is) (record { sound = k.worker w event given v step; formula = k.worker_formula w event given v step })
  step_keeps (Coordinator c) event given new (d, step, is) =
      subst (Keeps (Coordinator c)) (sym is) (record { sound = λ valid. k.coordinator c event given d valid step; formula = k.coordinator_formula c event given d step })

  delivers_keeps : (old : Node) (bytes : List ℕ) (answer : Reaction) (new : Node) → Delivers old bytes answer new → Keeps old new
  delivers_keeps old bytes answer new (Delivers.begins first is step) = step_keeps old (Delivered first) (Reacted answer) new step
  delivers_keeps old bytes answer new (Delivers.no_frame none ignores) = stays old new ignores.1
  delivers_keeps old bytes answer new (Delivers.no_memory offers is same) = stays old new same

  works_keeps : (old : Node) (answer : Reaction) (new : Node) → Works old answer new → Keeps old new
  works_keeps (Worker w) answer new step = step_keeps (Worker w) Worked (Reacted answer) new step
  works_keeps (Coordinator c) answer new ignores = stays (Coordinator c) new ignores.1

  polls_keeps : (old : Node) (worker : ℕ) (answer : Reaction) (new : Node) → Polls old worker answer new → Keeps old new
  polls_keeps old worker answer new (Polls.sends sent step is) = step_keeps old (Polled worker) (Sent sent) new step
  polls_keeps old worker answer new (Polls.is_ignored none ignores) = stays old new ignores.1
  polls_keeps old worker answer new (Polls.no_memory step is) = step_keeps old (Polled worker) (Reacted reaction.NoMemory) new step

  anew_keeps : (old : Node) (number : ℕ) → Keeps old (restarted old number)
  anew_keeps (Worker w) number = record { sound = λ is. tt; formula = refl }
  anew_keeps (Coordinator c) number = record { sound = k.anew c number; formula = refl }

  restarts_keeps : (old : Node) (number : ℕ) (answer : Reaction) (new : Node) → Restarts old number answer new → Keeps old new
  restarts_keeps old number answer new (Restarts.anew is now) = subst (Keeps old) (sym now) (anew_keeps old number)
  restarts_keeps old number answer new (Restarts.no_memory c at is same) = stays old new same

  extends_goes : (node : ℕ) (x : Cnf) (number : ℕ) (old : Node) (answer : Reaction) (new : Node) → Extends old x number answer new → Goes (Extend node x number) answer old new
  extends_goes node x number (Worker w) answer new (v, step, is) =
      subst (Goes (Extend node x number) answer (Worker w)) (sym is) (record { sound = k.longer_worker w x number answer v step; formula = k.longer_worker_formula w x number answer v step })
  extends_goes node x number (Coordinator c) answer new (d, step, is) =
      subst (Goes (Extend node x number) answer (Coordinator c)) (sym is) (record { sound = λ valid. k.longer_coordinator c x number answer d valid step; formula = k.longer_coordinator_formula c x number answer d step })

  reacts_goes : (event : OpenEvent) (old : Node) (answer : Reaction) (new : Node) → Reacts event old answer new → Goes event answer old new
  reacts_goes (Deliver node bytes) old answer new step = let h = delivers_keeps old bytes answer new step in record { sound = h.sound; formula = h.formula }
  reacts_goes (Work node) old answer new step = let h = works_keeps old answer new step in record { sound = h.sound; formula = h.formula }
  reacts_goes (Poll node worker) old answer new step = let h = polls_keeps old worker answer new step in record { sound = h.sound; formula = h.formula }
  reacts_goes (Restart node number) old answer new step = let h = restarts_keeps old number answer new step in record { sound = h.sound; formula = h.formula }
  reacts_goes (Extend node x number) old answer new step = extends_goes node x number old answer new step

  -- an event leaves all nodes sound, and changes formulas only by added clauses
  happens_sound : (old : List Node) (event : OpenEvent) (answer : Reaction) (new : List Node) → Happens old event answer new → AreSound old → AreSound new
  happens_sound old event answer new happens sound = go (slice_get old (node_of event)) refl happens
    where
      go : (o : Option Node) → slice_get old (node_of event) ≡ o
          → MatchOption o (Ignores old answer new) (λ n. (m : Node) × Reacts event n answer m × (new ≡ slice_set old (node_of event) m))
          → AreSound new
      go None is ignores = subst AreSound (sym ignores.1) sound
      go (Some n) is (m, step, set) =
          let was : IsSound n = subst IsSound (get_or_from_slice_get old (node_of event) n n is) (sound (node_of event) n (slice_get_within old (node_of event) n is)) in
          subst AreSound (sym set) (All-set IsSound old (node_of event) m ((reacts_goes event n answer m step).sound was) sound)

  pub happens_formulas : (old : List Node) (event : OpenEvent) (answer : Reaction) (new : List Node) → Happens old event answer new → formulas new ≡ formulas_after_event event answer (formulas old)
  happens_formulas old event answer new happens = go (slice_get old (node_of event)) refl happens
    where
      go : (o : Option Node) → slice_get old (node_of event) ≡ o
          → MatchOption o (Ignores old answer new) (λ n. (m : Node) × Reacts event n answer m × (new ≡ slice_set old (node_of event) m))
          → formulas new ≡ formulas_after_event event answer (formulas old)
      go None is ignores =
          ap formulas ignores.1 ∙ sym (changed_same (node_of event) (formula_after_event event reaction.Ignored) (formulas old) (ignored_keeps event))
          ∙ ap (λ (r : Reaction). formulas_after_event event r (formulas old)) (sym ignores.0)
      go (Some n) is (m, step, set) = ap formulas set ∙ changed_set old (node_of event) n m (formula_after_event event answer) is (reacts_goes event n answer m step).formula

  -- so does a run
  pub runs_sound : (old : List Node) (events : List OpenEvent) (new : List Node) → Runs old events new → AreSound old → AreSound new
  runs_sound old [] new same sound = subst AreSound (sym same) sound
  runs_sound old (event ∷ events) new (answer, mid, happens, runs) sound = runs_sound mid events new runs (happens_sound old event answer mid happens sound)

  pub runs_formulas : (old : List Node) (events : List OpenEvent) (new : List Node) → Runs old events new → FormulasAlong (formulas old) events (formulas new)
  runs_formulas old [] new same = ap formulas same
  runs_formulas old (event ∷ events) new (answer, mid, happens, runs) =
      (answer, subst (λ (Fs : List Cnf). FormulasAlong Fs events (formulas new)) (happens_formulas old event answer mid happens) (runs_formulas mid events new runs))

-- a run with one event more
pub runs_more : (old : List Node) (events : List OpenEvent) (mid : List Node) (event : OpenEvent) (answer : Reaction) (new : List Node)
    → Runs old events mid → Happens mid event answer new → Runs old (events ++ event ∷ []) new
runs_more old [] mid event answer new same happens = (answer, new, subst (λ (n : List Node). Happens n event answer new) same happens, refl)
runs_more old (first ∷ events) mid event answer new (first_answer, next, first_happens, runs) happens =
    (first_answer, next, first_happens, runs_more next events mid event answer new runs happens)

-- a run of one event
pub runs_one : (old : List Node) (event : OpenEvent) (answer : Reaction) (new : List Node) → Happens old event answer new → Runs old (event ∷ []) new
runs_one old event answer new happens = (answer, new, happens, refl)

-- a poll whose frame is dropped
pub polls_by : {E : Type 0} (old : Node) (number : ℕ) (sent : Result Frame E) (new : Node) → NodeStep old (Polled number) (given_by sent) new → Polls old number (answer_to sent) new
polls_by old number (Ok frame) new step = Polls.sends frame step refl
polls_by old number (Err fault) new step = Polls.no_memory step refl
