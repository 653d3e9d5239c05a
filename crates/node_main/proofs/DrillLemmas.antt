-- Drills: one more turn, and what no turn does.
use Rattle.std.proofs.Common.{◌≡◌, ℕ, zero, suc, ◌+◌, ◌<◌, ◌≤◌, List, [], ◌∷◌, ◌++◌, length, map, Contains, Option, Some, None, refl, subst, sym, ap, ◌∙◌, inl, inr, ◌⊎◌, arith}
use Rattle.std.proofs.lemmas.List.{length-set}
use Rattle.std.proofs.lemmas.List.Elements.{Contains-append_cases}
use Rattle.dimacs.specs.logic.Base.{numbers_from}
use Rattle.lrat_check.specs.declared.verdict.Reaction.{Reaction}
use Rattle.lrat_check.specs.declared.verdict.Reaction.TheVariants as reaction
use Rattle.evidence.specs.Events.{Event, Given}
use Rattle.honest_cluster.specs.ClosedLaws.{IsMoment, NeverRefused, NeverDiffer}
use Rattle.honest_cluster.specs.ClosedSchedule.{Beginning, ClosedState, HappensClosed, HappensDeliver, HappensWork, HappensPoll, HappensRestart, StepsAt, RestartsAt, first_worker, new_closed}
use Rattle.honest_cluster.specs.declared.event.ClosedEvent.{ClosedEvent}
use Rattle.honest_cluster.specs.declared.event.ClosedEvent.TheVariants.{Deliver, Work, Poll, Restart}
use Rattle.honest_cluster.proofs.Moments.{next_moment}
use Rattle.honest_cluster.proofs.Places.{same_some, none_some}
use Rattle.node_main.specs.DrillSchedule.{DrillState, Counts, Disagrees, Drills, IsNew, IsRefusedReaction, Occurs, TakesTurn, next_after}

-- a turn more
pub drills_more : (old : DrillState) (turns : List (List ℕ)) (mid : DrillState) (words : List ℕ) (new : DrillState)
    → Drills old turns mid → TakesTurn mid words new → Drills old (turns ++ words ∷ []) new
drills_more old [] mid words new same turn = (new, subst (λ (d : DrillState). TakesTurn d words new) same turn, refl)
drills_more old (first ∷ turns) mid words new (next, took, drills) turn = (next, took, drills_more next turns mid words new drills turn)

-- no event changes how many workers there are
steps_length : (s : ClosedState) (node : ℕ) (event : Event) (given : Given) (new : ClosedState) → StepsAt s node event given new → length new.workers ≡ length s.workers
steps_length s zero event given new step = ap (λ (k : ClosedState). length k.workers) step.2
steps_length s (suc place) event given new step = ap (λ (k : ClosedState). length k.workers) step.4 ∙ length-set s.workers place step.1

restarts_length : (s : ClosedState) (node number : ℕ) (new : ClosedState) → RestartsAt s node number new → length new.workers ≡ length s.workers
restarts_length s zero number new same = ap (λ (k : ClosedState). length k.workers) same
restarts_length s (suc place) number new anew = ap (λ (k : ClosedState). length k.workers) anew.2 ∙ length-set s.workers place _

same_length : (s new : ClosedState) → new ≡ s → length new.workers ≡ length s.workers
same_length s new same = ap (λ (k : ClosedState). length k.workers) same

happens_length : (s : ClosedState) (event : ClosedEvent) (answer : Reaction) (new : ClosedState) → HappensClosed s event answer new → length new.workers ≡ length s.workers
happens_length s (Deliver node place) answer new (HappensDeliver.is_ignored why ignored) = same_length s new ignored.1
happens_length s (Deliver node place) answer new (HappensDeliver.delivers frame at step) = steps_length s node _ _ new step
happens_length s (Work node) answer new (HappensWork.is_ignored why ignored) = same_length s new ignored.1
happens_length s (Work node) answer new (HappensWork.works step) = steps_length s node _ _ new step
happens_length s (Poll node worker) answer new (HappensPoll.is_ignored why ignored) = same_length s new ignored.1
happens_length s (Poll node worker) answer new (HappensPoll.sends frame after step taken same) = same_length _ new same ∙ steps_length s node _ _ after step
happens_length s (Poll node worker) answer new (HappensPoll.no_memory known none same) = same_length s new same
happens_length s (Restart node number) answer new (HappensRestart.is_ignored why ignored) = same_length s new ignored.1
happens_length s (Restart node number) answer new (HappensRestart.anew after fresh restarts taken same) = same_length _ new same ∙ restarts_length s node number after restarts
happens_length s (Restart node number) answer new (HappensRestart.no_memory known fresh none same) = same_length s new same

-- of a cluster of three there are three
pub new_length : (s : ClosedState) → IsNew 3 s → length s.workers ≡ 3
new_length s new =
    let many : ℕ → ℕ = λ n. length (map (first_worker new.beginning.formula new.beginning.definitions) (numbers_from 1 n)) in
    same_length (new_closed new.beginning) s new.made ∙ ap many new.many

pub occurs_length : (s : ClosedState) (event : Option ClosedEvent) (answer : Option Reaction) (new : ClosedState) → Occurs s event answer new → length new.workers ≡ length s.workers
occurs_length s None None new same = same_length s new same
occurs_length s (Some event) (Some answer) new happens = happens_length s event answer new happens.0
occurs_length s None (Some answer) new never = absurd never
occurs_length s (Some event) None new never = absurd never

-- the moment after what occurs
occurs_moment : (b : Beginning) (s : ClosedState) (event : Option ClosedEvent) (answer : Option Reaction) (new : ClosedState)
    → IsMoment b s → Occurs s event answer new → IsMoment b new
occurs_moment b s None None new is same = subst (IsMoment b) (sym same) is
occurs_moment b s (Some event) (Some answer) new is happens = next_moment b s event answer new is happens.0
occurs_moment b s None (Some answer) new is never = absurd never
occurs_moment b s (Some event) None new is never = absurd never

-- is no refusal
occurs_plain : NeverRefused → (b : Beginning) (s : ClosedState) (event : Option ClosedEvent) (answer : Option Reaction) (new : ClosedState)
    → IsMoment b s → Occurs s event answer new → IsRefusedReaction answer → ⊥
occurs_plain law b s None None new is same refusal = none_some _ refusal.1
occurs_plain law b s (Some event) (Some answer) new is happens refusal =
    law b s is event answer new happens.0 refusal.0 (same_some answer (reaction.Refused refusal.0) refusal.1)
occurs_plain law b s None (Some answer) new is never refusal = absurd never
occurs_plain law b s (Some event) None new is never refusal = absurd never

-- a count of what is not so stays
uncounted : (P : Type 0) (old new : ℕ) → ¬ P → Counts P old new → new ≡ old
uncounted P old new never (Counts.counted so one) = absurd (never so)
uncounted P old new never (Counts.passed unmet same) = same

-- a count grows by one at most
count_grows : (P : Type 0) (old new : ℕ) → Counts P old new → new ≤ old + 1
count_grows P old new (Counts.counted so one) = omega (arith, one)
count_grows P old new (Counts.passed unmet same) = omega (arith, same)

next_grows : (event : Option ClosedEvent) (next : ℕ) → next_after event next ≤ next + 1
next_grows None next = omega arith
next_grows (Some (Deliver node place)) next = omega arith
next_grows (Some (Work node)) next = omega arith
next_grows (Some (Poll node worker)) next = omega arith
next_grows (Some (Restart node number)) next = omega arith

pub turn_grows : (old : DrillState) (words : List ℕ) (new : DrillState) → TakesTurn old words new
    → (new.next ≤ old.next + 1) × (new.refused ≤ old.refused + 1) × (new.disagreements ≤ old.disagreements + 1)
turn_grows old words new turn = (
  subst (λ (k : ℕ). k ≤ old.next + 1) (sym turn.next) (next_grows _ old.next),
  count_grows _ old.refused new.refused turn.refused,
  count_grows _ old.disagreements new.disagreements turn.disagreements,
)

-- each of some moments is one of the same cluster
AreMoments : Beginning → List ClosedState → Type 0
AreMoments b moments = (s : ClosedState) → Contains moments s → IsMoment b s

one_more : (b : Beginning) (moments : List ClosedState) (new : ClosedState) (all : List ClosedState)
    → all ≡ moments ++ new ∷ [] → AreMoments b moments → IsMoment b new → AreMoments b all
unfolding AreMoments
one_more b moments new all same are is s among = go (Contains-append_cases moments (new ∷ []) s (subst (λ (m : List ClosedState). Contains m s) same among))
  where
    only : Contains (new ∷ []) s → IsMoment b s
    only (zero, lt, at) = subst (IsMoment b) at is
    only (suc k, lt, at) = absurd (omega (arith, lt))

    go : Contains moments s ⊎ Contains (new ∷ []) s → IsMoment b s
    go (inl old) = are s old
    go (inr last) = only last

-- no verdicts disagree
never_disagrees : NeverDiffer → (b : Beginning) (moments : List ClosedState) (s : ClosedState)
    → AreMoments b moments → IsMoment b s → Disagrees moments s → ⊥
unfolding AreMoments
never_disagrees law b moments s are is (v, w, held, also, differ) =
    law b s is b also.0 refl (are also.0 also.1) held.0 also.2.0 v w held.1 also.2.1 differ

drills_calm : NeverRefused → NeverDiffer → (b : Beginning) (old : DrillState) (turns : List (List ℕ)) (new : DrillState)
    → IsMoment b old.cluster → AreMoments b old.moments → Drills old turns new
    → (new.refused ≡ old.refused) × (new.disagreements ≡ old.disagreements)
drills_calm refused differ b old [] new is are same = (ap (λ (d : DrillState). d.refused) same, ap (λ (d : DrillState). d.disagreements) same)
drills_calm refused differ b old (words ∷ turns) new is are (mid, turn, drills) =
    let here = occurs_moment b old.cluster _ turn.answer mid.cluster is turn.occurs in
    let all = one_more b old.moments mid.cluster mid.moments turn.moments are here in
    let rest = drills_calm refused differ b mid turns new here all drills in
    let first = uncounted _ old.refused mid.refused (occurs_plain refused b old.cluster _ turn.answer mid.cluster is turn.occurs) turn.refused in
    let second = uncounted _ old.disagreements mid.disagreements (never_disagrees differ b mid.moments mid.cluster all here) turn.disagreements in
    (rest.0 ∙ first, rest.1 ∙ second)

-- over no turn so far
pub begun_calm : NeverRefused → NeverDiffer → (b : Beginning) (s : ClosedState) (turns : List (List ℕ)) (old new : DrillState)
    → IsMoment b s → old.cluster ≡ s → old.moments ≡ [] → Drills old turns new
    → (new.refused ≡ old.refused) × (new.disagreements ≡ old.disagreements)
unfolding AreMoments
begun_calm refused differ b s turns old new is at none drills =
    drills_calm refused differ b old turns new (subst (IsMoment b) (sym at) is)
    (λ t among. let lt : among.0 < 0 = subst (λ (m : List ClosedState). among.0 < length m) none among.1 in absurd (omega (arith, lt))) drills
