-- What is true of the hints along which a walk ends in a conflict.
use Rattle.std.proofs.Common.{◌≡◌, ℕ, List, [], ◌∷◌, Option, Some, None, refl, sym, ◌∙◌, subst}
use Rattle.std.specs.Prelude.{⊤}
use Rattle.std.specs.List.{Contains, AllByRecursion}
use Rattle.dimacs.specs.logic.Literal.{Literal, Clause}
use Rattle.dimacs.specs.logic.Propagation.{Assumed, with_literal}
use Rattle.lrat_check.specs.inner.LiteralTable.{FitsTable}
use Rattle.lrat_check.specs.StepFaults.{Status, Satisfied, Falsified, Unit, Undecided, status}
use Rattle.lrat_check.proofs.Places.{member_below}
use Rattle.lrat_check.proofs.Walks.{unit_member}
use Rattle.proof_lift.specs.HintWalk.{ClauseImage, Gone, Kept, ClauseImages, Passed, WalkOutcome, Open, Closed, Wrong, along, walk_status, walk_hint, lift_walk}
use Rattle.proof_lift.specs.inner.Walks.{ImagesFit, IsPlaced, ChainFits, from_there}

module _ (Q : Passed → Type 0) (P : ℕ → Clause → Type 0) where
  -- of the clause of an image, and of each literal of it as the unit
  abbrev pub Both : ℕ → Clause → Type 0
  Both i D = P i D × ((l : Literal) → Contains D l → Q (record { number = i; clause = D; unit = l }))

  -- of all hints, and of the conflict
  abbrev pub AllAlong : WalkOutcome → Type 0
  AllAlong Open = ⊤
  AllAlong (Closed ps last conflict) = AllByRecursion Q ps × P last conflict
  AllAlong (Wrong number) = ⊤

  all_along : (p : Passed) (w : WalkOutcome) → Q p → AllAlong w → AllAlong (along p w)
  all_along p Open q h = tt
  all_along p (Closed ps last conflict) q h = ((q, h.0), h.1)
  all_along p (Wrong number) q h = tt

  all_status : (i : ℕ) (D : Clause) (A : Assumed) (next : Assumed → WalkOutcome) (s : Status) → Both i D → s ≡ status A D → ((B : Assumed) → AllAlong (next B)) → AllAlong (walk_status i D A next s)
  all_status i D A next Satisfied h is on = on A
  all_status i D A next Falsified h is on = (tt, h.0)
  all_status i D A next (Unit l) h is on = all_along (record { number = i; clause = D; unit = l }) (next (with_literal A l)) (h.1 l (unit_member A D l is)) (on (with_literal A l))
  all_status i D A next Undecided h is on = tt

  all_hint : (A : Assumed) (next : Assumed → WalkOutcome) (o : Option ClauseImage) → ((i : ℕ) (D : Clause) → o ≡ Some (Kept i D) → Both i D) → ((B : Assumed) → AllAlong (next B)) → AllAlong (walk_hint A next o)
  all_hint A next None h on = tt
  all_hint A next (Some Gone) h on = on A
  all_hint A next (Some (Kept i D)) h on = all_status i D A next (status A D) (h i D refl) refl on

  pub walk_all : (T : ClauseImages) → ((n i : ℕ) (D : Clause) → T n ≡ Some (Kept i D) → Both i D) → (hints : List ℕ) (A : Assumed) → AllAlong (lift_walk T hints A)
  walk_all T h [] A = tt
  walk_all T h (hint ∷ hints) A = all_hint A (λ B. lift_walk T hints B) (T hint) (λ i D is. h hint i D is) (λ B. walk_all T h hints B)

pub from_none : (w : WalkOutcome) → from_there [] w ≡ w
from_none Open = refl
from_none (Closed ps last conflict) = refl
from_none (Wrong number) = refl

-- a table that fits what stands for the clauses fits the chain and the conflict
pub walk_fits : (places : ℕ) (T : ClauseImages) (hints : List ℕ) (A : Assumed) (ps : List Passed) (last : ℕ) (conflict : Clause) → ImagesFit places T → from_there [] (lift_walk T hints A) ≡ Closed ps last conflict
    → ChainFits places ps × FitsTable places conflict
walk_fits places T hints A ps last conflict fits is =
    subst (λ w. AllAlong (IsPlaced places) (λ i D. FitsTable places D) w) (sym (from_none (lift_walk T hints A)) ∙ is)
    (walk_all (IsPlaced places) (λ i D. FitsTable places D) T
    (λ n i D e. (fits n i D e, λ l here. (fits n i D e, member_below places D l (fits n i D e) here))) hints A)
