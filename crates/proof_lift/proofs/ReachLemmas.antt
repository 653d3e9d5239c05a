-- Unit propagation to its end: if nothing is left to propagate and no clause is false, no hints end in a conflict.
use Rattle.std.proofs.Common.{◌≡◌, ◌≢◌, ℕ, inl, inr, Bool, true, false, not, List, [], ◌∷◌, ◌++◌, Option, Some, None, cond, refl, sym, ◌∙◌, ap, subst, append_assoc}
use Rattle.std.specs.Prelude.{All}
use Rattle.std.specs.List.{Contains, list_any, list_all}
use Rattle.std.proofs.lemmas.Bool.{both_ways, cases_Bool, or_cases, or_right, not-true}
use Rattle.std.proofs.lemmas.List.Elements.{All-head, All-tail, All-push}
use Rattle.dimacs.specs.logic.Literal.{Literal, Pos, Neg, Clause, negation, same}
use Rattle.dimacs.specs.logic.Propagation.{Assumed, with_literal}
use Rattle.dimacs.proofs.LiteralLemmas.{same-true, same-itself, same_or_not, negation-negation}
use Rattle.dimacs.proofs.Members.{Contains-head, Contains-cons, Contains-filter}
use Rattle.lrat_check.specs.StepFaults.{Status, Satisfied, Falsified, Unit, Undecided, status, status_of_free, not_false}
use Rattle.lrat_check.proofs.Exact.{falsified_false, unit_is, list_all_from}
use Rattle.lrat_text.specs.Grammar.{IsClauseNumber}
use Rattle.proof_lift.specs.HintWalk.{ClauseImage, Gone, Kept, ClauseImages, Passed, WalkOutcome, Open, Closed, Wrong, along, walk_status, walk_hint, lift_walk}
use Rattle.proof_lift.specs.inner.Propagation.{IsConflict, Conflicts, Reaches, IsSettled}
use Rattle.proof_lift.proofs.FoundLemmas.{any_member, member_any, satisfied}

-- ---- conflicts
conflict_along : (p : Passed) (w : WalkOutcome) → IsConflict w → IsConflict (along p w)
conflict_along p Open c = c
conflict_along p (Closed ps last conflict) c = c
conflict_along p (Wrong number) c = c

along_conflict : (p : Passed) (w : WalkOutcome) → IsConflict (along p w) → IsConflict w
along_conflict p Open c = c
along_conflict p (Closed ps last conflict) c = c
along_conflict p (Wrong number) c = c

pub conflict_closed : (w : WalkOutcome) → IsConflict w → (ps : List Passed) × (last : ℕ) × (C : Clause) × (w ≡ Closed ps last C)
conflict_closed Open c = absurd c
conflict_closed (Closed ps last conflict) c = (ps, last, conflict, refl)
conflict_closed (Wrong number) c = absurd c

-- ---- one hint more
one_more : (T : ClauseImages) (B : Assumed) (n i : ℕ) (D : Clause) (s : Status) (later : List ℕ) → T n ≡ Some (Kept i D) → s ≡ status B D
    → lift_walk T (n ∷ later) B ≡ walk_status i D B (λ E. lift_walk T later E) s
one_more T B n i D s later at is = ap (walk_hint B (λ E. lift_walk T later E)) at ∙ ap (walk_status i D B (λ E. lift_walk T later E)) (sym is)

no_pair_joins : (A B : Assumed) (l : Literal) → B (negation l) ≡ false → ((k : Literal) → B k ≡ true → B (negation k) ≡ true → A k ≡ true)
    → (k : Literal) → with_literal B l k ≡ true → with_literal B l (negation k) ≡ true → A k ≡ true
no_pair_joins A B l free pairs k t u = elim (or_cases (same k l) (B k) t) [
  | inl e ↦ elim (or_cases (same (negation k) l) (B (negation k)) u) [
    | inl f ↦ absurd (never_same k (same-true k l e ∙ sym (same-true (negation k) l f)))
    | inr g ↦ absurd (both_ways (B (negation l)) free (subst (λ x. B (negation x) ≡ true) (same-true k l e) g))
  ]
  | inr g ↦ elim (or_cases (same (negation k) l) (B (negation k)) u) [
    | inl f ↦ absurd (both_ways (B (negation l)) free (subst (λ x. B x ≡ true) (sym (negation-negation k) ∙ ap negation (same-true (negation k) l f)) g))
    | inr h ↦ pairs k g h
  ]
]
  where
    never_same : (j : Literal) → j ≡ negation j → ⊥
    never_same (Pos v) e = absurd cc
    never_same (Neg v) e = absurd cc

pub reaches_unit : (T : ClauseImages) (A B : Assumed) (hints : List ℕ) (n i : ℕ) (D : Clause) (l : Literal) → Reaches T A hints B → IsClauseNumber n → T n ≡ Some (Kept i D) → Unit l ≡ status B D
    → Reaches T A (hints ++ n ∷ []) (with_literal B l)
reaches_unit T A B hints n i D l r number at is = record {
  numbers = All-push IsClauseNumber hints n r.numbers number;
  more = λ k t. or_right (same k l) (B k) (r.more k t);
  pairs = no_pair_joins A B l (unit_is B D l is).not_false r.pairs;
  leads = λ later c.
      subst (λ ks. IsConflict (lift_walk T ks A)) (sym (append_assoc hints (n ∷ []) later))
      (r.leads (n ∷ later)
      (subst IsConflict (sym (one_more T B n i D (Unit l) later at is)) (conflict_along (record { number = i; clause = D; unit = l }) (lift_walk T later (with_literal B l)) c)));
}

pub reaches_false : (T : ClauseImages) (A B : Assumed) (hints : List ℕ) (n i : ℕ) (D : Clause) → Reaches T A hints B → IsClauseNumber n → T n ≡ Some (Kept i D) → Falsified ≡ status B D → Conflicts T A (hints ++ n ∷ [])
reaches_false T A B hints n i D r number at is = record {
  numbers = All-push IsClauseNumber hints n r.numbers number;
  conflict = r.leads (n ∷ []) (subst IsConflict (sym (one_more T B n i D Falsified [] at is)) tt);
}

-- ---- a clause that is settled
few_free : (ls : List Literal) (l : Literal) → ((k : Literal) → Contains ls k → k ≡ l) → status_of_free ls ≡ Undecided → ⊥
few_free [] l only e = absurd cc
few_free (j ∷ ls) l only e =
    let all : list_all (same j) ls ≡ true = list_all_from (same j) ls (λ k m. subst (λ x. same j x ≡ true) (only j (Contains-head j ls) ∙ sym (only k (Contains-cons j k ls m))) (same-itself j)) in
    let no : Unit j ≡ Undecided = sym (ap (λ b. cond b (Unit j) Undecided) all) ∙ e in
    absurd cc

free_satisfied : (ls : List Literal) → status_of_free ls ≡ Satisfied → ⊥
free_satisfied [] e = absurd cc
free_satisfied (j ∷ ls) e = at (list_all (same j) ls) e
  where
    at : (b : Bool) → cond b (Unit j) Undecided ≡ Satisfied → ⊥
    at true e = absurd cc
    at false e = absurd cc

-- one literal at most is not false, so another one is true
settled_true : (B : Assumed) (D : Clause) (l : Literal) → IsSettled B D → ((k : Literal) → Contains D k → k ≢ l → B (negation k) ≡ true) → list_any B D ≡ true
settled_true B D l settled others = elim (cases_Bool (list_any B D)) [
  | inl t ↦ t
  | inr f ↦
      let is : status B D ≡ status_of_free (not_false B D) = ap (λ b. cond b Satisfied (status_of_free (not_false B D))) f in
      elim settled [
        | inl s ↦ absurd (free_satisfied (not_false B D) (sym is ∙ s))
        | inr u ↦ absurd (few_free (not_false B D) l (λ k m. only k (Contains-filter (λ x. not (B (negation x))) D k m)) (sym is ∙ u))
      ]
]
  where
    only : (k : Literal) → Contains D k × (not (B (negation k)) ≡ true) → k ≡ l
    only k (m, t) = elim (same_or_not k l) [ inl e ↦ e | inr apart ↦ absurd (both_ways (B (negation k)) (not-true (B (negation k)) t) (others k m apart)) ]

-- ---- no walk ends in a conflict
-- C is between A and B, and what B has with its negation is A's
pub record IsBetween (A C B : Assumed) : Type 0 where
  pub low : (l : Literal) → A l ≡ true → C l ≡ true
  pub high : (l : Literal) → C l ≡ true → B l ≡ true
  pub pairs : (l : Literal) → B l ≡ true → B (negation l) ≡ true → A l ≡ true

-- a literal that is false under C is not true under B, unless C has it
pair_is_low : (A C B : Assumed) (D : Clause) (k : Literal) → IsBetween A C B → Contains D k → B k ≡ true → C (negation k) ≡ true → status C D ≡ Satisfied
pair_is_low A C B D k b m t u = satisfied C D (member_any C D k m (b.low k (b.pairs k t (b.high (negation k) u))))

not_falsified : (A C B : Assumed) (D : Clause) → IsBetween A C B → IsSettled B D → status C D ≡ Falsified → ⊥
not_falsified A C B D b settled is =
    let false_in = falsified_false C D (sym is) in
    let some = any_member B D (settled_true B D (Pos 1) settled (λ k m apart. b.high (negation k) (false_in k m))) in
    let no : Satisfied ≡ Falsified = sym (pair_is_low A C B D some.0 b some.1 some.2 (false_in some.0 some.1)) ∙ is in
    absurd cc

unit_is_high : (A C B : Assumed) (D : Clause) (l : Literal) → IsBetween A C B → IsSettled B D → status C D ≡ Unit l → B l ≡ true
unit_is_high A C B D l b settled is =
    let u = unit_is C D l (sym is) in
    let some = any_member B D (settled_true B D l settled (λ k m apart. b.high (negation k) (u.others k m apart))) in
    elim (same_or_not some.0 l) [
      | inl e ↦ subst (λ x. B x ≡ true) e some.2
      | inr apart ↦ absurd (let no : Satisfied ≡ Unit l = sym (pair_is_low A C B D some.0 b some.1 some.2 (u.others some.0 some.1 apart)) ∙ is in cc)
    ]

between_more : (A C B : Assumed) (l : Literal) → IsBetween A C B → B l ≡ true → IsBetween A (with_literal C l) B
between_more A C B l b t = record {
  low = λ k h. or_right (same k l) (C k) (b.low k h);
  high = λ k h. elim (or_cases (same k l) (C k) h) [ inl e ↦ subst (λ x. B x ≡ true) (sym (same-true k l e)) t | inr g ↦ b.high k g ];
  pairs = b.pairs;
}

one_hint : (A B : Assumed) (next : Assumed → WalkOutcome) → ((C : Assumed) → IsBetween A C B → IsConflict (next C) → ⊥) → (C : Assumed) → IsBetween A C B
    → (o : Option ClauseImage) → ((i : ℕ) (D : Clause) → o ≡ Some (Kept i D) → IsSettled B D) → IsConflict (walk_hint C next o) → ⊥
one_hint A B next never C b None settled c = c
one_hint A B next never C b (Some Gone) settled c = never C b c
one_hint A B next never C b (Some (Kept i D)) settled c = at (status C D) refl c
  where
    at : (s : Status) → status C D ≡ s → IsConflict (walk_status i D C next s) → ⊥
    at Satisfied is h = never C b h
    at Falsified is h = not_falsified A C B D b (settled i D refl) is
    at (Unit l) is h =
        never (with_literal C l) (between_more A C B l b (unit_is_high A C B D l b (settled i D refl) is)) (along_conflict (record { number = i; clause = D; unit = l }) (next (with_literal C l)) h)
    at Undecided is h = h

pub never_closes : (T : ClauseImages) (A B : Assumed) → ((n i : ℕ) (D : Clause) → T n ≡ Some (Kept i D) → IsClauseNumber n → IsSettled B D) → (hints : List ℕ) → All IsClauseNumber hints
    → (C : Assumed) → IsBetween A C B → IsConflict (lift_walk T hints C) → ⊥
never_closes T A B settled [] numbers C b c = c
never_closes T A B settled (n ∷ hints) numbers C b c =
    one_hint A B (λ E. lift_walk T hints E) (λ E h k. never_closes T A B settled hints (All-tail IsClauseNumber n hints numbers) E h k) C b (T n)
    (λ i D is. settled n i D is (All-head IsClauseNumber n hints numbers)) c
