-- The last propagation, which derives the empty lemma.
use Rattle.std.proofs.Common.{◌≡◌, ℕ, ◌+◌, ◌<◌, ◌≤◌, ◌^◌, inl, inr, false, List, [], None, Err, refl, sym, ◌∙◌, ap, subst, arith}
use Rattle.std.proofs.lemmas.Bool.{both_ways}
use Rattle.lrat_text.specs.Log.{Cube}
use Rattle.proof_lift.specs.TrimmedLemma.{union}
use Rattle.dimacs.specs.logic.Propagation.{negations}
use Rattle.proof_lift.specs.HintWalk.{lift_walk}
use Rattle.proof_lift.specs.LiftedText.{LiftState, is_met, lift_addition, lift_lemma}
use Rattle.proof_lift.specs.inner.EmptyLemma.{NothingCloses}
use Rattle.proof_lift.specs.inner.Images.{images_of}
use Rattle.proof_lift.specs.inner.Propagation.{IsConflict}
use Rattle.proof_lift.specs.inner.Reached.{GivesHints}
use Rattle.proof_lift.specs.inner.Ready.{state_of}
use Rattle.proof_lift.specs.declared.step_lifter.StepLifter.{StepLifter}
use Rattle.proof_lift.proofs.LiftedLemmas.{addition_cases}
use Rattle.proof_lift.proofs.ReachLemmas.{conflict_closed}
use Rattle.proof_lift.proofs.ReadyLemmas.{addition_is}
use Rattle.proof_lift.proofs.StreamLemmas.{met_none}

-- no number is left
pub no_number : (x : StepLifter) → 2 ^ 48 ≤ x.top + 1 → NothingCloses x
no_number x high n hints steps s' limits e =
    let rises = (addition_cases x.cube.items (state_of x) n [] hints [] steps s' e).0 in
    let low = limits.0.1 in
    absurd (omega arith)

-- no hints end in a conflict
pub nothing_found : (x : StepLifter) → GivesHints (images_of x.images) x.cube.items None → NothingCloses x
nothing_found x none n hints steps s' limits e = elim (addition_cases x.cube.items (state_of x) n [] hints [] steps s' e).1 [
  | inl gone ↦ both_ways (is_met x.cube.items []) (met_none x.cube.items) gone.met
  | inr k ↦ none hints limits.2 (subst IsConflict (sym k.walk) tt)
]

-- the empty lemma is lifted by hints that end in a conflict
pub never_refused : (q : Cube) (s : LiftState) (id number : ℕ) (hints : List ℕ) → s.top < id → IsConflict (lift_walk s.stands hints (negations (union q []))) → lift_addition q s id [] hints [] ≡ Err number → ⊥
never_refused q s id number hints rises conflict e =
    let w = conflict_closed (lift_walk s.stands hints (negations (union q []))) conflict in
    let no = sym (addition_is q s id [] hints [] rises refl refl false (met_none q) ∙ ap (lift_lemma q s id []) w.3) ∙ e in
    absurd cc
