-- The state of propagation in the code.
use Rattle.std.proofs.Common.{◌≡◌, ℕ, ◌+◌, ◌<◌, ◌≤◌, inl, inr, Bool, true, false, List, [], ◌∷◌, ◌++◌, Some, refl, sym, ◌∙◌, ap, subst, length, vec_len, get_or, set, take, cond, ◌||◌, arith}
use Rattle.std.specs.Prelude.{All, Contains}
use Rattle.std.proofs.lemmas.Bool.{both_ways, eq-eqb, ne_eqb}
use Rattle.std.proofs.lemmas.List.{take_more}
use Rattle.std.proofs.lemmas.List.Elements.{All-nil, Contains-push_cases}
use Rattle.std.proofs.lemmas.List.Sums.{sum_by-set}
use Rattle.dimacs.specs.logic.Literal.{Literal, Clause, index_of}
use Rattle.dimacs.specs.logic.Propagation.{Assumed, negations}
use Rattle.dimacs.proofs.Members.{Contains-cons_cases, Contains-nil, Contains-head}
use Rattle.lrat_check.specs.StepFaults.{Unit, status}
use Rattle.lrat_check.proofs.Places.{assumed_by-set}
use Rattle.lrat_check.proofs.Walks.{unit_not_true}
use Rattle.lrat_text.specs.Grammar.{IsClauseNumber}
use Rattle.lrat_text.specs.Log.{Cube}
use Rattle.proof_lift.specs.TrimmedLemma.{union}
use Rattle.proof_lift.specs.HintWalk.{Kept, ClauseImages, lift_walk}
use Rattle.proof_lift.specs.inner.Propagation.{IsConflict, Reaches, IsSettled, AreSettled}
use Rattle.proof_lift.specs.inner.Reached.{true_in, IsReached, place_left, unmarked, Shifts, ComesTo, look_of}
use Rattle.proof_lift.specs.inner.Tables.{marked}
use Rattle.proof_lift.specs.inner.Walks.{ImagesFit}
use Rattle.proof_lift.specs.declared.cube_propagation.Look.{Look}
use Rattle.proof_lift.specs.declared.cube_propagation.Look.TheVariants.{Conflict, Moved, Still}
use Rattle.proof_lift.specs.declared.cube_propagation.Reached.{Reached}
use Rattle.proof_lift.proofs.ReachLemmas.{never_closes, reaches_unit}
use Rattle.proof_lift.proofs.ReadyLemmas.{same_kept, fits_longer}

-- no hint leads nowhere
pub reaches_none : (T : ClauseImages) (A B : Assumed) (hints : List ℕ) → hints ≡ [] → B ≡ A → Reaches T A hints B
reaches_none T A B hints none e = subst (λ (hs : List ℕ). Reaches T A hs B) (sym none) (record {
  numbers = All-nil IsClauseNumber;
  more = λ l t. subst (λ (X : Assumed). X l ≡ true) (sym e) t;
  pairs = λ l t u. subst (λ (X : Assumed). X l ≡ true) e t;
  leads = λ later c. subst (λ (X : Assumed). IsConflict (lift_walk T later X)) e c;
})

-- ---- one clause
pub settled_one : (T : ClauseImages) (B : Assumed) (n i : ℕ) (D : Clause) → T n ≡ Some (Kept i D) → IsSettled B D → AreSettled T B (n ∷ [])
settled_one T B n i D at settled k j E m e = elim (Contains-cons_cases n k [] m) [
  | inl same ↦ subst (λ C. IsSettled B C) (same_kept i j D E (sym at ∙ ap T same ∙ e)).1 settled
  | inr none ↦ absurd (Contains-nil k none)
]

pub settled_none : (T : ClauseImages) (B : Assumed) (n : ℕ) → ((i : ℕ) (D : Clause) → T n ≡ Some (Kept i D) → ⊥) → AreSettled T B (n ∷ [])
settled_none T B n never k j E m e = elim (Contains-cons_cases n k [] m) [
  | inl same ↦ absurd (never j E (ap T same ∙ e))
  | inr none ↦ absurd (Contains-nil k none)
]

-- a place that was unmarked is marked
marks_one : (truth : List ℕ) (place : ℕ) → place < length truth → (get_or truth place 0 ≡ 1 → ⊥) → unmarked (set truth place 1) < unmarked truth
marks_one truth place inside free =
    let e = sum_by-set place_left truth place 1 0 inside in
    let one : place_left (get_or truth place 0) ≡ 1 = ap (λ (b : Bool). cond {A = ℕ} b 0 1) (ne_eqb (get_or truth place 0) 1 free) in
    omega (arith, e, one)

unmarked_place : (truth : List ℕ) (l : Literal) → marked truth 1 l ≡ false → get_or truth (index_of l) 0 ≡ 1 → ⊥
unmarked_place truth l free e = both_ways (marked truth 1 l) free (ap (λ b. b || b) (eq-eqb (get_or truth (index_of l) 0) 1 e))

pub unit_marks : (truth : List ℕ) (D : Clause) (l : Literal) (place : ℕ) → place < length truth → Unit l ≡ status (marked truth 1) D → place ≡ index_of l → unmarked (set truth place 1) < unmarked truth
unit_marks truth D l place inside is at = marks_one truth place inside (λ e. unmarked_place truth l (unit_not_true (marked truth 1) D l is) (sym (ap (λ (i : ℕ). get_or truth i 0) at) ∙ e))

-- its literal joins
pub unit_joins : (T : ClauseImages) (A : Assumed) (truth hints more : List ℕ) (n k : ℕ) (D : Clause) (l : Literal) (place : ℕ) → Reaches T A hints (marked truth 1) → IsClauseNumber n → T n ≡ Some (Kept k D)
    → Unit l ≡ status (marked truth 1) D → place < length truth → place ≡ index_of l → more ≡ hints ++ n ∷ [] → Reaches T A more (marked (set truth place 1) 1)
unit_joins T A truth hints more n k D l place r number at is inside here pushed =
    subst (λ (hs : List ℕ). Reaches T A hs (marked (set truth place 1) 1)) (sym pushed)
    (subst (λ (B : Assumed). Reaches T A (hints ++ n ∷ []) B)
    (sym (ap (λ (i : ℕ). marked (set truth i 1) 1) here ∙ assumed_by-set truth 1 1 l (subst (λ i. i < length truth) here inside)))
    (reaches_unit T A (marked truth 1) hints n k D l r number at is))

-- ---- clauses in turn
pub settled_no_number : (T : ClauseImages) (B : Assumed) → AreSettled T B []
settled_no_number T B n i D m e = absurd (Contains-nil n m)

settled_more : (T : ClauseImages) (B : Assumed) (numbers : List ℕ) (i : ℕ) → i < length numbers → AreSettled T B (take i numbers) → AreSettled T B (get_or numbers i 0 ∷ []) → AreSettled T B (take (i + 1) numbers)
settled_more T B numbers i inside before here n j D m e =
    elim (Contains-push_cases (take i numbers) (get_or numbers i 0) n (subst (λ (xs : List ℕ). Contains xs n) (take_more numbers i 0 inside) m)) [
      | inl h ↦ before n j D h e
      | inr same ↦ here n j D (subst (λ k. Contains (get_or numbers i 0 ∷ []) k) same (Contains-head (get_or numbers i 0) [])) e
    ]

pub reached_on : (T : ClauseImages) (A : Assumed) (numbers : List ℕ) (old mid : Reached) (moved : Bool) → Shifts old mid (look_of moved) → ComesTo T A numbers old mid (look_of moved) → IsReached T A old → IsReached T A mid
reached_on T A numbers old mid true s c r = c
reached_on T A numbers old mid false s c r = subst (λ x. IsReached T A x) (sym s) r

pub shifts_more : (old mid new : Reached) (moved : Bool) → Shifts old mid (look_of moved) → Shifts mid new Moved → Shifts old new Moved
shifts_more old mid new true s t = (let a = s.0 in let b = t.0 in omega arith, t.1 ∙ s.1)
shifts_more old mid new false s t = subst (λ x. Shifts x new Moved) s t

pub shifts_on : (old mid new : Reached) (moved : Bool) → Shifts old mid (look_of moved) → new ≡ mid → Shifts old new (look_of moved)
shifts_on old mid new moved s e = subst (λ x. Shifts old x (look_of moved)) (sym e) s

pub places_on : (old mid : Reached) (moved : Bool) → Shifts old mid (look_of moved) → vec_len mid.truth ≡ vec_len old.truth
places_on old mid true s = s.1
places_on old mid false s = ap (λ (x : Reached). vec_len x.truth) s

pub comes_on : (T : ClauseImages) (A : Assumed) (numbers : List ℕ) (i : ℕ) (old mid new : Reached) (moved : Bool) → i < length numbers → Shifts old mid (look_of moved) → new ≡ mid
    → ComesTo T A (take i numbers) old mid (look_of moved) → AreSettled T (true_in mid) (get_or numbers i 0 ∷ []) → ComesTo T A (take (i + 1) numbers) old new (look_of moved)
comes_on T A numbers i old mid new true inside s e c here = subst (λ x. IsReached T A x) (sym e) c
comes_on T A numbers i old mid new false inside s e c here = settled_more T (true_in old) numbers i inside c (subst (λ x. AreSettled T (true_in x) (get_or numbers i 0 ∷ [])) s here)

-- ---- the end
pub gives_none : (T : ClauseImages) (q : Cube) (numbers : List ℕ) (r : Reached) → ((n i : ℕ) (D : Clause) → T n ≡ Some (Kept i D) → IsClauseNumber n → Contains numbers n)
    → IsReached T (negations (union q [])) r → AreSettled T (true_in r) numbers → (hints : List ℕ) → All IsClauseNumber hints → IsConflict (lift_walk T hints (negations (union q []))) → ⊥
gives_none T q numbers r all reached settled hints in_line c =
    never_closes T (negations (union q [])) (true_in r) (λ n i D e u. settled n i D (all n i D e u) e) hints in_line (negations (union q []))
    (record { low = λ l t. t; high = reached.more; pairs = reached.pairs }) c

pub stands_fit : (places more : ℕ) (T : ClauseImages) → places ≤ more → ImagesFit places T → ImagesFit more T
stands_fit places more T longer fits n i D e = fits_longer places more D longer (fits n i D e)

-- after a pass without a conflict
pub places_then : (old new : Reached) (look : Look) → (look ≡ Conflict → ⊥) → Shifts old new look → vec_len new.truth ≡ vec_len old.truth
places_then old new Conflict other s = absurd (other refl)
places_then old new Moved other s = s.1
places_then old new Still other s = ap (λ (x : Reached). vec_len x.truth) s

pub reached_then : (T : ClauseImages) (A : Assumed) (numbers : List ℕ) (old new : Reached) (look : Look) → (look ≡ Conflict → ⊥) → Shifts old new look → ComesTo T A numbers old new look → IsReached T A old → IsReached T A new
reached_then T A numbers old new Conflict other s c r = absurd (other refl)
reached_then T A numbers old new Moved other s c r = c
reached_then T A numbers old new Still other s c r = subst (λ x. IsReached T A x) (sym s) r
