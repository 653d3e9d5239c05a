-- What holds of a closed cluster at every moment, by the laws of closed schedules.
use Rattle.std.proofs.Common.{◌≡◌, ℕ, ◌<◌, ◌≤◌, All, List, [], ◌∷◌, length, drop, Option, None, Some, IfSome, Bor, Result, Ok, Err, IfOk, refl, subst, sym, ap, ◌∙◌}
use Rattle.std.proofs.lemmas.List.{drop_all}
use Rattle.std.specs.Option.{option_copied}
use Rattle.dimacs.specs.logic.Cnf.{Cnf, IsFormula}
use Rattle.dimacs.specs.logic.Literal.{IsWithin}
use Rattle.icnf.specs.Leaves.{Cube, IsTree}
use Rattle.lrat_check.specs.Verdicts.{Right}
use Rattle.lrat_check.specs.declared.verdict.Reaction.{Reaction}
use Rattle.lrat_check.specs.declared.verdict.Verdict.{Verdict}
use Rattle.cube_split.specs.Definitions.{base_with}
use Rattle.cube_split.specs.Pairs.{AreDefined, AreOf, Definitions, IsBaseWith, no_definitions}
use Rattle.evidence.specs.Jobs.{IsOverBase}
use Rattle.coordinator_core.proofs.NewCoordinatorLemmas.{narrow_tree, plain_is}
use Rattle.honest_cluster.specs.declared.event.ClosedEvent.{ClosedEvent}
use Rattle.honest_cluster.specs.ClosedSchedule.{Beginning, ClosedState, HappensClosed, RunsClosed, new_closed, verdict_at}
use Rattle.honest_cluster.specs.ClosedLaws.{AlwaysRight, ClosedIsJoined, OneFormula}
use Rattle.honest_cluster.proofs.Moments.{first_moment, next_moment}
use Rattle.cluster.specs.Closed.{AllHoldRight, HasJoinedIfClosed, IsReached}

-- the moment at which a cluster begins
pub new_reached : (b : Beginning) (wanted : ℕ) → IsFormula b.formula → AreOf b.formula b.definitions → b.definitions.wanted ≡ wanted → IsTree b.tree
    → ((B : Cnf) → IsBaseWith b.formula wanted B → All (IsOverBase B) b.tree) → (1000000 < b.formula.vars → All (All (IsWithin 2000000)) b.tree) → (1 ≤ b.workers) × (b.workers ≤ 64) → IsReached (new_closed b)
new_reached b wanted formula defined as_wanted is_tree inside narrow few =
    let all : AreDefined b.formula wanted [] b.definitions.pairs = subst (λ (n : ℕ). AreDefined b.formula n [] b.definitions.pairs) as_wanted defined.defined in
    let over : All (IsOverBase (base_with b.formula b.definitions.pairs)) b.tree = inside _ (record { pairs = b.definitions.pairs; defined = all; is = refl }) in
    record { beginning = b; moment = first_moment b formula defined (record { is_tree = is_tree; inside = over; narrow = narrow_tree b.formula b.definitions b.tree defined over narrow }) few.0 few.1 }

abbrev begins_with : Cnf → Definitions → List Cube → ℕ → ℕ → Beginning
begins_with F d tree limit workers = record { formula = F; definitions = d; tree = tree; limit = limit; workers = workers }

-- if no definitions are asked for, the cluster begins without any
pub plain_closed : {E : Type 0} (F : Cnf) (tree : List Cube) (limit workers : ℕ) (made : Result ClosedState E)
    → IfOk made (λ c. (d : Definitions) × AreOf F d × (d.wanted ≡ 0) × (c ≡ new_closed (begins_with F d tree limit workers)))
    → IfOk made (λ c. c ≡ new_closed (begins_with F no_definitions tree limit workers))
plain_closed F tree limit workers (Ok c) (d, defined, none, is) = is ∙ ap (λ (e : Definitions). new_closed (begins_with F e tree limit workers)) (plain_is F d defined none)
plain_closed F tree limit workers (Err fault) h = tt

-- an event, or a list of events, leads from a moment to a moment
pub next_reached : (s : ClosedState) (event : ClosedEvent) (answer : Reaction) (new : ClosedState) → IsReached s → HappensClosed s event answer new → IsReached new
next_reached s event answer new r happens = record { beginning = r.beginning; moment = next_moment r.beginning s event answer new r.moment happens }

pub later_reached : (s : ClosedState) (events : List ClosedEvent) (new : ClosedState) → IsReached s → RunsClosed s events new → IsReached new
later_reached s [] new r same = subst IsReached (sym same) r
later_reached s (event ∷ events) new r (answer, mid, happens, runs) = later_reached mid events new (next_reached s event answer mid r happens) runs

-- a state that the remaining events lead to from here is one that all events lead to from the beginning; at the end no event remains
pub run_ends : (s now : ClosedState) (events : List ClosedEvent) (i : ℕ) → length events ≤ i
    → ((end : ClosedState) → RunsClosed now (drop i events) end → RunsClosed s events end) → RunsClosed s events now
run_ends s now events i past run = run now (subst (λ (left : List ClosedEvent). RunsClosed now left now) (sym (drop_all i events past)) refl)

-- what the laws say of a moment
pub reached_right : AlwaysRight → OneFormula → (s : ClosedState) → IsReached s → AllHoldRight s
reached_right right one s r node v held =
    let same = one r.beginning s r.moment in
    subst (λ (F : Cnf). Right F v) (sym same.0) (right r.beginning s r.moment node v held)

pub reached_joined : ClosedIsJoined → (s : ClosedState) → IsReached s → HasJoinedIfClosed s
reached_joined joined s r = joined r.beginning s r.moment

-- so each verdict that is returned is right
pub shown_right : (s : ClosedState) (node : ℕ) (shown : Option (Bor Verdict)) → AllHoldRight s → option_copied shown ≡ verdict_at s node → IfSome shown (λ v. Right s.coordinator.formula v.now)
shown_right s node None right is = tt
shown_right s node (Some v) right is = right node v.now (sym is)
