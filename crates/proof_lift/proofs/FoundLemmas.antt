-- The walk along hints finds a conflict exactly if there is one.
use Rattle.std.proofs.Common.{◌≡◌, ℕ, ◌⊎◌, inl, inr, true, false, List, [], ◌∷◌, ◌++◌, Option, Some, None, cond, refl, sym, ◌∙◌, ap, subst}
use Rattle.std.specs.List.{Contains, list_any}
use Rattle.std.proofs.lemmas.Bool.{both_ways, cases_Bool, or_cases, or_left, or_right, false_from_ne_true}
use Rattle.dimacs.specs.logic.Literal.{Literal, Clause, IsTautology, negation, has}
use Rattle.dimacs.specs.logic.ClauseMap.{ClauseMap, live_in}
use Rattle.dimacs.specs.logic.Propagation.{Assumed, negations, with_literal, IsFalse, IsUnit, Leads, Rup}
use Rattle.dimacs.proofs.LiteralLemmas.{same_or_not}
use Rattle.dimacs.proofs.Members.{Contains-head, Contains-cons, Contains-cons_cases, Contains-nil, has-Contains, Contains-has}
use Rattle.lrat_text.specs.Log.{Cube}
use Rattle.lrat_check.specs.StepFaults.{Status, Satisfied, Falsified, Unit, Undecided, status, status_of_free, not_false}
use Rattle.lrat_check.proofs.Exact.{falsified_false, unit_is, false_falsified, is_unit}
use Rattle.proof_lift.specs.HintWalk.{ClauseImage, Gone, Kept, ClauseImages, Passed, WalkOutcome, Open, Closed, Wrong, along, walk_status, walk_hint, lift_walk}
use Rattle.proof_lift.specs.inner.Linked.{IsMet, IsImage, IsUnion, AreLive, AreImages, ArePassed}
use Rattle.proof_lift.proofs.WalkLemmas.{IsBeside, beside_skip, beside_join, not_met, met_is_unit, image_false, image_others, image_stops, union_no_pair, union_beside, met_or_not}

-- ---- a literal that is true
pub member_any : (α : Assumed) (C : Clause) (k : Literal) → Contains C k → α k ≡ true → list_any α C ≡ true
member_any α [] k h t = absurd (Contains-nil k h)
member_any α (j ∷ C) k h t = elim (Contains-cons_cases j k C h) [
  | inl e ↦ or_left (α j) (list_any α C) (subst (λ x. α x ≡ true) (sym e) t)
  | inr r ↦ or_right (α j) (list_any α C) (member_any α C k r t)
]

pub any_member : (α : Assumed) (C : Clause) → list_any α C ≡ true → (k : Literal) × Contains C k × (α k ≡ true)
any_member α [] e = absurd cc
any_member α (j ∷ C) e = elim (or_cases (α j) (list_any α C) e) [
  | inl t ↦ (j, Contains-head j C, t)
  | inr r ↦ let z = any_member α C r in (z.0, Contains-cons j z.0 C z.1, z.2)
]

pub satisfied : (α : Assumed) (C : Clause) → list_any α C ≡ true → status α C ≡ Satisfied
satisfied α C e = ap (λ b. cond b Satisfied (status_of_free (not_false α C))) e

-- ---- what the image of a unit clause is
-- true, with the unit literal; or false; or unit, with the unit literal
abbrev pub LineLifts : Assumed → Clause → Literal → Type 0
LineLifts A E l = ((status A E ≡ Satisfied) × (A l ≡ true)) ⊎ ((status A E ≡ Falsified) ⊎ ((status A E ≡ Unit l) × (A (negation l) ≡ false)))

-- a true literal of the image is the unit literal
true_is_unit : (q : Cube) (α A : Assumed) (C E : Clause) (l k : Literal) → IsBeside q α A → IsUnit α C l → IsImage q C E → Contains E k → A k ≡ true → A l ≡ true
true_is_unit q α A C E l k b u i here t = elim (same_or_not k l) [
  | inl e ↦ subst (λ x. A x ≡ true) e t
  | inr n ↦ absurd (b.consistent k t (image_others q α A C E l b u i k here n))
]

image_goes_on : (q : Cube) (α A : Assumed) (C E : Clause) (l : Literal) → IsBeside q α A → IsUnit α C l → IsImage q C E → LineLifts A E l
image_goes_on q α A C E l b u i = elim (cases_Bool (list_any A E)) [
  | inl t ↦ let m = any_member A E t in inl (satisfied A E t, true_is_unit q α A C E l m.0 b u i m.1 m.2)
  | inr none ↦ elim (cases_Bool (A (negation l))) [
    | inl t ↦ inr (inl (false_falsified A E b.consistent (image_stops q α A C E l b u i (λ m. t))))
    | inr loose ↦ elim (cases_Bool (has E l)) [
      | inl inside ↦ inr (inr (
        is_unit A E l b.consistent (record {
          member = has-Contains E l inside;
          not_true = false_from_ne_true (A l) (λ t. both_ways (list_any A E) none (member_any A E l (has-Contains E l inside) t));
          not_false = loose;
          others = image_others q α A C E l b u i;
        }),
        loose,
      ))
      | inr out ↦ inr (inl (false_falsified A E b.consistent (image_stops q α A C E l b u i (λ m. absurd (both_ways (has E l) out (Contains-has E l m))))))
    ]
  ]
]

-- ---- the walk finds a conflict
abbrev pub IsClosed : WalkOutcome → Type 0
IsClosed w = (ps : List Passed) × (last : ℕ) × (conflict : Clause) × (w ≡ Closed ps last conflict)

closed_along : (p : Passed) (w : WalkOutcome) → IsClosed w → IsClosed (along p w)
closed_along p w (ps, last, conflict, e) = (p ∷ ps, last, conflict, ap (along p) e)

by_image : (i : ℕ) (α A : Assumed) (E : Clause) (l : Literal) (q : Cube) (next : Assumed → WalkOutcome) → IsBeside q α A → LineLifts A E l
    → ((B : Assumed) → IsBeside q (with_literal α l) B → IsClosed (next B)) → IsClosed (walk_status i E A next (status A E))
by_image i α A E l q next b (inl (is, t)) on = subst (λ s. IsClosed (walk_status i E A next s)) (sym is) (on A (beside_skip q α A l b t))
by_image i α A E l q next b (inr (inl is)) on = subst (λ s. IsClosed (walk_status i E A next s)) (sym is) ([], i, E, refl)
by_image i α A E l q next b (inr (inr (is, loose))) on =
    subst (λ s. IsClosed (walk_status i E A next s)) (sym is)
    (closed_along (record { number = i; clause = E; unit = l }) (next (with_literal A l)) (on (with_literal A l) (beside_join q α A l b loose)))

one_hint : (q : Cube) (T : ClauseImages) (n : ℕ) (α A : Assumed) (C : Clause) (l : Literal) (next : Assumed → WalkOutcome) → IsUnit α C l → IsBeside q α A
    → ((T n ≡ Some Gone) × IsMet q C) ⊎ ((i : ℕ) × (D : Clause) × (T n ≡ Some (Kept i D)) × IsImage q C D)
    → ((B : Assumed) → IsBeside q (with_literal α l) B → IsClosed (next B)) → IsClosed (walk_hint A next (T n))
one_hint q T n α A C l next u b (inl (is, met)) on =
    subst (λ o. IsClosed (walk_hint A next o)) (sym is) (on A (beside_skip q α A l b (met_is_unit q α A C l b u met)))
one_hint q T n α A C l next u b (inr (i, D, is, image)) on =
    subst (λ o. IsClosed (walk_hint A next o)) (sym is) (by_image i α A D l q next b (image_goes_on q α A C D l b u image) on)

last_hint : (q : Cube) (T : ClauseImages) (n : ℕ) (α A : Assumed) (C : Clause) (next : Assumed → WalkOutcome) → IsFalse α C → IsBeside q α A
    → ((T n ≡ Some Gone) × IsMet q C) ⊎ ((i : ℕ) × (D : Clause) × (T n ≡ Some (Kept i D)) × IsImage q C D)
    → IsClosed (walk_hint A next (T n))
last_hint q T n α A C next f b (inl (is, met)) = absurd (not_met q α A C b f met)
last_hint q T n α A C next f b (inr (i, D, is, image)) =
    subst (λ o. IsClosed (walk_hint A next o)) (sym is)
    (subst (λ s. IsClosed (walk_status i D A next s)) (sym (false_falsified A D b.consistent (image_false q α A C D b f image))) ([], i, D, refl))

walk_closes : (q : Cube) (T : ClauseImages) (M : ClauseMap) → AreImages q T M → (front : List ℕ) (last : ℕ) (α β A : Assumed) (C : Clause)
    → Leads (live_in M) α front β → live_in M last C → IsFalse β C → IsBeside q α A → IsClosed (lift_walk T (front ++ last ∷ []) A)
walk_closes q T M stand [] last α β A C leads live f b =
    last_hint q T last α A C (λ B. lift_walk T [] B) (subst (λ γ. IsFalse γ C) (sym leads) f) b (stand.each last C live)
walk_closes q T M stand (n ∷ front) last α β A C (D, l, here, unit, rest) live f b =
    one_hint q T n α A D l (λ B. lift_walk T (front ++ last ∷ []) B) unit b (stand.each n D here)
    (λ B b'. walk_closes q T M stand front last (with_literal α l) β B C rest live f b')

-- of each lemma that follows and has no literal of the cube
pub walk_is_complete : (q : Cube) (T : ClauseImages) (M : ClauseMap) (C E : Clause) (hints : List ℕ) → (IsTautology q → ⊥) → AreImages q T M → IsUnion q C E → Rup (live_in M) C hints
    → IsMet q C ⊎ IsClosed (lift_walk T hints (negations E))
walk_is_complete q T M C E hints q_none stand union rup = elim (met_or_not q C) [
  | inl met ↦ inl met
  | inr apart ↦
      let none : IsTautology E → ⊥ = union_no_pair q C E q_none rup.no_pair apart union in
      let r = rup.refutes in
      inr (subst (λ hs. IsClosed (lift_walk T hs (negations E))) (sym r.splits)
      (walk_closes q T M stand r.front r.last (negations C) r.reached (negations E) r.clause r.leads r.lives r.conflict (union_beside q C E union none)))
]

-- ---- a conflict that it finds is one
closed_is : (ps ps' : List Passed) (n n' : ℕ) (C C' : Clause) → Closed ps n C ≡ Closed ps' n' C' → (ps ≡ ps') × (n ≡ n') × (C ≡ C')
closed_is ps ps' n n' C C' e = (cc, cc, cc)

-- along a hint that joins
along_closed : (p : Passed) (w : WalkOutcome) (ps : List Passed) (last : ℕ) (conflict : Clause) → along p w ≡ Closed ps last conflict → (rest : List Passed) × (w ≡ Closed rest last conflict) × (p ∷ rest ≡ ps)
along_closed p Open ps last conflict e = absurd cc
along_closed p (Closed rest n C) ps last conflict e =
    let same = closed_is (p ∷ rest) ps n last C conflict e in
    (rest, ap (λ m. Closed rest m C) same.1 ∙ ap (λ D. Closed rest last D) same.2, same.0)
along_closed p (Wrong number) ps last conflict e = absurd cc

-- the hints lead on to a clause that is false
abbrev pub LeadsOn : ClauseMap → Assumed → List Passed → ℕ → Clause → Type 0
LeadsOn N A ps last conflict = (reached : Assumed) × ArePassed N A ps reached × live_in N last conflict × IsFalse reached conflict

leads_is : (N : ClauseMap) (A : Assumed) (ps ps' : List Passed) (n n' : ℕ) (C C' : Clause) → (ps ≡ ps') × (n ≡ n') × (C ≡ C') → LeadsOn N A ps n C → LeadsOn N A ps' n' C'
leads_is N A ps ps' n n' C C' (a, b, c) h = subst (λ x. LeadsOn N A ps' n' x) c (subst (λ x. LeadsOn N A ps' x C) b (subst (λ x. LeadsOn N A x n C) a h))

-- by the status of the image
sound_status : (N : ClauseMap) (i : ℕ) (A : Assumed) (D : Clause) (next : Assumed → WalkOutcome) (s : Status) (ps : List Passed) (last : ℕ) (conflict : Clause) → live_in N i D → s ≡ status A D
    → ((B : Assumed) (rest : List Passed) → next B ≡ Closed rest last conflict → LeadsOn N B rest last conflict)
    → walk_status i D A next s ≡ Closed ps last conflict → LeadsOn N A ps last conflict
sound_status N i A D next Satisfied ps last conflict live is on e = on A ps e
sound_status N i A D next Falsified ps last conflict live is on e =
    leads_is N A [] ps i last D conflict (closed_is [] ps i last D conflict e) (A, refl, live, falsified_false A D is)
sound_status N i A D next (Unit l) ps last conflict live is on e =
    let p : Passed = record { number = i; clause = D; unit = l } in
    let a = along_closed p (next (with_literal A l)) ps last conflict e in
    let r = on (with_literal A l) a.0 a.1 in
    subst (λ qs. LeadsOn N A qs last conflict) a.2 (r.0, (live, unit_is A D l is, r.1), r.2, r.3)
sound_status N i A D next Undecided ps last conflict live is on e = absurd cc

sound_hint : (N : ClauseMap) (A : Assumed) (next : Assumed → WalkOutcome) (o : Option ClauseImage) (ps : List Passed) (last : ℕ) (conflict : Clause) → ((i : ℕ) (D : Clause) → o ≡ Some (Kept i D) → live_in N i D)
    → ((B : Assumed) (rest : List Passed) → next B ≡ Closed rest last conflict → LeadsOn N B rest last conflict)
    → walk_hint A next o ≡ Closed ps last conflict → LeadsOn N A ps last conflict
sound_hint N A next None ps last conflict live on e = absurd cc
sound_hint N A next (Some Gone) ps last conflict live on e = on A ps e
sound_hint N A next (Some (Kept i D)) ps last conflict live on e = sound_status N i A D next (status A D) ps last conflict (live i D refl) refl on e

pub walk_leads : (T : ClauseImages) (N : ClauseMap) → AreLive T N → (hints : List ℕ) (A : Assumed) (ps : List Passed) (last : ℕ) (conflict : Clause) → lift_walk T hints A ≡ Closed ps last conflict
    → LeadsOn N A ps last conflict
walk_leads T N live [] A ps last conflict e = absurd cc
walk_leads T N live (hint ∷ hints) A ps last conflict e =
    sound_hint N A (λ B. lift_walk T hints B) (T hint) ps last conflict (λ i D is. live hint i D is) (λ B rest f. walk_leads T N live hints B rest last conflict f) e
