-- An event with the reaction `Ignored` or `NoMemory` changes nothing.
use Rattle.std.proofs.Common.{◌≡◌, ◌⊎◌, inl, inr, ℕ, Option, None, Some, List, MatchOption, slice_get, slice_set, get_or, refl, sym, ap, ◌∙◌}
use Rattle.std.proofs.lemmas.List.{set-get_or}
use Rattle.std.proofs.lemmas.Option.{get_or_from_slice_get}
use Rattle.lrat_check.specs.declared.verdict.Reaction.{Reaction}
use Rattle.lrat_check.specs.declared.verdict.Reaction.TheVariants as reaction
use Rattle.evidence.specs.Events.{Event, Delivered, Worked, Polled, Given, Reacted, Ignores}
use Rattle.dimacs.specs.logic.Cnf.{Cnf}
use Rattle.worker_core.specs.AddedClauses.{ExtendsWorker}
use Rattle.worker_core.specs.Laws as worker
use Rattle.worker_core.specs.Worker.{WorkerState, WorkerStep}
use Rattle.coordinator_core.specs.AddedClauses.{ExtendsCoordinator}
use Rattle.coordinator_core.specs.Laws as coordinator
use Rattle.coordinator_core.specs.Coordinator.{CoordinatorState, CoordinatorStep}
use Rattle.cluster.specs.declared.event.OpenEvent.{OpenEvent}
use Rattle.cluster.specs.declared.event.OpenEvent.TheVariants.{Deliver, Work, Poll, Restart, Extend}
use Rattle.cluster.specs.declared.node.Node.{Node}
use Rattle.cluster.specs.declared.node.Node.TheVariants.{Worker, Coordinator}
use Rattle.cluster.specs.OpenSchedule.{node_of, NodeStep, Delivers, Works, Polls, Restarts, Extends, Reacts, Happens, ChangesNothing}

-- what the machines' laws say of it
pub record Quiet : Type 0 where
  pub worker : (old : WorkerState) (event : Event) (given : Given) (new : WorkerState) → WorkerStep old event given new → worker.ChangesNothing given old new
  pub coordinator : (old : CoordinatorState) (event : Event) (given : Given) (new : CoordinatorState) → CoordinatorStep old event given new → coordinator.ChangesNothing given old new

-- the reaction is `Ignored` or `NoMemory`
abbrev IsQuiet : Reaction → Type 0
IsQuiet answer = (answer ≡ reaction.Ignored) ⊎ (answer ≡ reaction.NoMemory)

given_quiet : (answer : Reaction) → IsQuiet answer → (Reacted answer ≡ Reacted reaction.Ignored) ⊎ (Reacted answer ≡ Reacted reaction.NoMemory)
given_quiet answer (inl is) = inl (ap Reacted is)
given_quiet answer (inr is) = inr (ap Reacted is)

-- `Taken` is neither
taken_is_not : (X : Type 0) (answer : Reaction) → answer ≡ reaction.Taken → IsQuiet answer → X
taken_is_not X answer is (inl q) = absurd cc
taken_is_not X answer is (inr q) = absurd cc

worker_extends_nothing : (w : WorkerState) (x : Cnf) (number : ℕ) (answer : Reaction) (new : WorkerState) → ExtendsWorker w x number answer new → IsQuiet answer → new ≡ w
worker_extends_nothing w x number answer new (ExtendsWorker.too_large large is same) q = same
worker_extends_nothing w x number answer new (ExtendsWorker.taken fits held stays is anew) q = taken_is_not (new ≡ w) answer is q
worker_extends_nothing w x number answer new (ExtendsWorker.no_memory fits is same) q = same

coordinator_extends_nothing : (c : CoordinatorState) (x : Cnf) (number : ℕ) (answer : Reaction) (new : CoordinatorState) → ExtendsCoordinator c x number answer new → IsQuiet answer → new ≡ c
coordinator_extends_nothing c x number answer new (ExtendsCoordinator.too_large large is same) q = same
coordinator_extends_nothing c x number answer new (ExtendsCoordinator.taken fits held stays is anew) q = taken_is_not (new ≡ c) answer is q
coordinator_extends_nothing c x number answer new (ExtendsCoordinator.no_memory fits is same) q = same

extends_nothing : (old : Node) (x : Cnf) (number : ℕ) (answer : Reaction) (new : Node) → Extends old x number answer new → IsQuiet answer → new ≡ old
extends_nothing (Worker w) x number answer new (v, step, is) q = is ∙ ap Worker (worker_extends_nothing w x number answer v step q)
extends_nothing (Coordinator c) x number answer new (d, step, is) q = is ∙ ap Coordinator (coordinator_extends_nothing c x number answer d step q)

module _ (k : Quiet) where
  step_nothing : (old : Node) (event : Event) (answer : Reaction) (new : Node) → NodeStep old event (Reacted answer) new → IsQuiet answer → new ≡ old
  step_nothing (Worker w) event answer new (v, step, is) q = is ∙ ap Worker (k.worker w event (Reacted answer) v step (given_quiet answer q))
  step_nothing (Coordinator c) event answer new (d, step, is) q = is ∙ ap Coordinator (k.coordinator c event (Reacted answer) d step (given_quiet answer q))

  delivers_nothing : (old : Node) (bytes : List ℕ) (answer : Reaction) (new : Node) → Delivers old bytes answer new → IsQuiet answer → new ≡ old
  delivers_nothing old bytes answer new (Delivers.begins first is step) q = step_nothing old (Delivered first) answer new step q
  delivers_nothing old bytes answer new (Delivers.no_frame none ignores) q = ignores.1
  delivers_nothing old bytes answer new (Delivers.no_memory offers is same) q = same

  works_nothing : (old : Node) (answer : Reaction) (new : Node) → Works old answer new → IsQuiet answer → new ≡ old
  works_nothing (Worker w) answer new step q = step_nothing (Worker w) Worked answer new step q
  works_nothing (Coordinator c) answer new ignores q = ignores.1

  polls_nothing : (old : Node) (worker : ℕ) (answer : Reaction) (new : Node) → Polls old worker answer new → IsQuiet answer → new ≡ old
  polls_nothing old worker answer new (Polls.sends sent step is) q = taken_is_not (new ≡ old) answer is q
  polls_nothing old worker answer new (Polls.is_ignored none ignores) q = ignores.1
  polls_nothing old worker answer new (Polls.no_memory step is) q = step_nothing old (Polled worker) reaction.NoMemory new step (inr refl)

  restarts_nothing : (old : Node) (number : ℕ) (answer : Reaction) (new : Node) → Restarts old number answer new → IsQuiet answer → new ≡ old
  restarts_nothing old number answer new (Restarts.anew is now) q = taken_is_not (new ≡ old) answer is q
  restarts_nothing old number answer new (Restarts.no_memory c at is same) q = same

  reacts_nothing : (event : OpenEvent) (old : Node) (answer : Reaction) (new : Node) → Reacts event old answer new → IsQuiet answer → new ≡ old
  reacts_nothing (Deliver node bytes) old answer new step q = delivers_nothing old bytes answer new step q
  reacts_nothing (Work node) old answer new step q = works_nothing old answer new step q
  reacts_nothing (Poll node worker) old answer new step q = polls_nothing old worker answer new step q
  reacts_nothing (Restart node number) old answer new step q = restarts_nothing old number answer new step q
  reacts_nothing (Extend node x number) old answer new step q = extends_nothing old x number answer new step q

  pub happens_nothing : (old : List Node) (event : OpenEvent) (answer : Reaction) (new : List Node) → Happens old event answer new → ChangesNothing answer old new
  happens_nothing old event answer new happens q = go (slice_get old (node_of event)) refl happens
    where
      go : (o : Option Node) → slice_get old (node_of event) ≡ o
          → MatchOption o (Ignores old answer new) (λ n. (m : Node) × Reacts event n answer m × (new ≡ slice_set old (node_of event) m))
          → new ≡ old
      go None is ignores = ignores.1
      go (Some n) is (m, step, set) =
          let found : get_or old (node_of event) n ≡ n = get_or_from_slice_get old (node_of event) n n is in
          set ∙ ap (slice_set old (node_of event)) (reacts_nothing event n answer m step q ∙ sym found) ∙ set-get_or old (node_of event) n
