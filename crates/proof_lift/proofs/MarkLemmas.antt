-- Tables of stamps.
use mathlib.Core.Path.{fun_ext}
use Rattle.std.proofs.Common.{◌≡◌, ◌≢◌, ℕ, suc, ◌+◌, ◌<◌, inl, inr, Bool, true, false, not, ◌||◌, ◌&&◌, List, [], ◌∷◌, ◌++◌, refl, sym, ◌∙◌, ap, subst, take, drop, length, get_or, set, eqb, cond, arith, get_or-set_same, get_or-set_other, add-one, drop-cons}
use Rattle.std.proofs.lemmas.Bool.{cases_eq, ne_eqb}
use Rattle.std.proofs.lemmas.List.{take_more}
use Rattle.std.proofs.lemmas.List.Folds.{list_any-append}
use Rattle.dimacs.specs.logic.Literal.{Literal, Clause, negation, same, index_of, has}
use Rattle.dimacs.specs.logic.Propagation.{Assumed, negations, with_literal}
use Rattle.dimacs.proofs.LiteralLemmas.{same-negation, negation-negation, same_or_not, same-itself, same-false, same-true}
use Rattle.lrat_check.specs.inner.LiteralTable.{FitsTable}
use Rattle.lrat_check.proofs.Places.{assumed_by-set, index_of-injective, member_below}
use Rattle.proof_lift.specs.LiftedText.{is_met}
use Rattle.proof_lift.specs.TrimmedLemma.{union, used_before}
use Rattle.proof_lift.specs.inner.Tables.{marked, AllBelow}

-- ---- stamps below a number
pub below_set : (n : ℕ) (marks : List ℕ) (i x : ℕ) → i < length marks → x < n → AllBelow n marks → AllBelow n (set marks i x)
below_set n marks i x inside low all j = elim (cases_eq j i) [
  | inl e ↦ subst (λ k. get_or (set marks i x) k 0 < n) (sym e) (subst (λ y. y < n) (sym (get_or-set_same marks i x 0 inside)) low)
  | inr d ↦ subst (λ y. y < n) (sym (get_or-set_other marks i j x 0 d)) (all j)
]

pub below_more : (n : ℕ) (marks : List ℕ) → AllBelow n marks → AllBelow (n + 1) marks
below_more n marks all j = let h = all j in omega arith

-- a stamp that no mark has come to marks nothing
pub none_marked : (stamp : ℕ) (marks : List ℕ) → AllBelow stamp marks → marked marks stamp ≡ (λ k. false)
none_marked stamp marks all = fun_ext (λ k. ap (λ b. b || b) (ne_eqb (get_or marks (index_of k) 0) stamp (λ e. let h = all (index_of k) in absurd (omega arith))))

pub none_marked_negations : (stamp : ℕ) (marks : List ℕ) → AllBelow stamp marks → marked marks stamp ≡ negations []
none_marked_negations stamp marks all = none_marked stamp marks all

-- ---- the cube
met_step : (cube : List Literal) (C : Clause) (i : ℕ) → i < length cube → (d : Literal) → has C (get_or cube i d) ≡ false → is_met (drop i cube) C ≡ is_met (drop (i + 1) cube) C
met_step cube C i below d out = rw (add-one, drop-cons cube i d) (ap (λ b. b || is_met (drop (suc i) cube) C) out)

pub met_on : (marks : List ℕ) (stamp : ℕ) (cube : List Literal) (i : ℕ) (x : Literal) (C : Clause) → i < length cube → x ≡ get_or cube i x → marked marks stamp (negation x) ≡ false
    → marked marks stamp ≡ negations C → is_met (drop i cube) C ≡ is_met (drop (i + 1) cube) C
met_on marks stamp cube i x C below at out is =
    met_step cube C i below x (ap (has C) (sym at ∙ sym (negation-negation x)) ∙ sym (ap (λ (α : Assumed). α (negation x)) is) ∙ out)

pub met_here : (marks : List ℕ) (stamp : ℕ) (cube : List Literal) (i : ℕ) (x : Literal) (C : Clause) → i < length cube → x ≡ get_or cube i x → marked marks stamp (negation x) ≡ true
    → marked marks stamp ≡ negations C → is_met (drop i cube) C ≡ true
met_here marks stamp cube i x C below at in_it is =
    rw (drop-cons cube i x) (ap (λ b. b || is_met (drop (suc i) cube) C) (ap (has C) (sym at ∙ sym (negation-negation x)) ∙ sym (ap (λ (α : Assumed). α (negation x)) is) ∙ in_it))

-- one literal more after a clause
swapped : (a b : Bool) → (a || b) ≡ (b || (a || false))
swapped true true = refl
swapped true false = refl
swapped false true = refl
swapped false false = refl

negations-push : (C : Clause) (x : Literal) → with_literal (negations C) x ≡ negations (C ++ negation x ∷ [])
negations-push C x = fun_ext (λ k.
    ap (λ y. same k y || has C (negation k)) (sym (negation-negation x))
    ∙ ap (λ b. b || has C (negation k)) (same-negation k (negation x))
    ∙ swapped (same (negation k) (negation x)) (has C (negation k))
    ∙ sym (list_any-append (same (negation k)) C (negation x ∷ [])))

pub joined_assumed : (marks : List ℕ) (stamp : ℕ) (C : Clause) (x : Literal) → index_of x < length marks → marked marks stamp ≡ negations C
    → marked (set marks (index_of x) stamp) stamp ≡ negations (C ++ negation x ∷ [])
joined_assumed marks stamp C x room is = assumed_by-set marks stamp stamp x room ∙ ap (λ (α : Assumed). with_literal α x) is ∙ negations-push C x

-- a literal is marked where its negation stands in the clause
pub union_in : (marks : List ℕ) (stamp : ℕ) (cube : List Literal) (i : ℕ) (x : Literal) (C : Clause) → i < length cube → x ≡ get_or cube i x → marked marks stamp ≡ negations C
    → marked marks stamp x ≡ true → union (drop i cube) C ≡ union (drop (i + 1) cube) C
union_in marks stamp cube i x C below at is t =
    rw (add-one, drop-cons cube i x)
    (ap (λ b. cond b (union (drop (suc i) cube) C) (union (drop (suc i) cube) (C ++ negation (get_or cube i x) ∷ [])))
    (ap (λ y. has C (negation y)) (sym at) ∙ sym (ap (λ (α : Assumed). α x) is) ∙ t))

pub union_out : (marks : List ℕ) (stamp : ℕ) (cube : List Literal) (i : ℕ) (x : Literal) (C : Clause) → i < length cube → x ≡ get_or cube i x → marked marks stamp ≡ negations C
    → marked marks stamp x ≡ false → union (drop i cube) C ≡ union (drop (i + 1) cube) (C ++ negation x ∷ [])
union_out marks stamp cube i x C below at is f =
    rw (add-one, drop-cons cube i x)
    (ap (λ b. cond b (union (drop (suc i) cube) C) (union (drop (suc i) cube) (C ++ negation (get_or cube i x) ∷ [])))
    (ap (λ y. has C (negation y)) (sym at) ∙ sym (ap (λ (α : Assumed). α x) is) ∙ f)
    ∙ ap (λ y. union (drop (suc i) cube) (C ++ negation y ∷ [])) (sym at))

-- the place of a literal of the clause
pub literal_below : (C : Clause) (i : ℕ) (l : Literal) (places places' : ℕ) → i < length C → l ≡ get_or C i l → FitsTable places C → places' ≡ places → index_of l < places'
literal_below C i l places places' below at fits same_places =
    subst (λ m. index_of l < m) (sym same_places) (member_below places C l fits (i, below, sym at))

-- ---- what is used
-- one literal is used no more
pub marked_less : (marks : List ℕ) (stamp : ℕ) (l : Literal) → 0 < stamp → index_of l < length marks
    → (k : Literal) → marked (set marks (index_of l) 0) stamp k ≡ (marked marks stamp k && not (same k l))
marked_less marks stamp l positive room k = elim (same_or_not k l) [
  | inl e ↦
      ap (λ j. eqb (get_or (set marks (index_of l) 0) (index_of j) 0) stamp || eqb (get_or (set marks (index_of l) 0) (index_of j) 0) stamp) e
      ∙ ap (λ x. eqb x stamp || eqb x stamp) (get_or-set_same marks (index_of l) 0 0 room)
      ∙ ap (λ b. b || b) (ne_eqb 0 stamp (λ z. absurd (omega arith)))
      ∙ sym (ap (λ b. marked marks stamp k && not b) (ap (λ j. same j l) e ∙ same-itself l) ∙ never (marked marks stamp k))
  | inr d ↦
      ap (λ x. eqb x stamp || eqb x stamp) (get_or-set_other marks (index_of l) (index_of k) 0 0 (λ e. d (index_of-injective k l e)))
      ∙ sym (ap (λ b. marked marks stamp k && not b) (same-false k l d) ∙ always (marked marks stamp k))
]
  where
    never : (b : Bool) → (b && false) ≡ false
    never true = refl
    never false = refl

    always : (b : Bool) → (b && true) ≡ b
    always true = refl
    always false = refl

-- before the first literal of a clause
pub used_begin : (marks marks' : List ℕ) (stamp : ℕ) (unit : Literal) → 0 < stamp → index_of unit < length marks → marks' ≡ set marks (index_of unit) 0
    → marked marks' stamp ≡ used_before (record { number = 0; clause = []; unit = unit }) (marked marks stamp)
used_begin marks marks' stamp unit positive room is =
    ap (λ m. marked m stamp) is ∙ fun_ext (λ k. marked_less marks stamp unit positive room k ∙ sym (or_none (marked marks stamp k && not (same k unit))))
  where
    or_none : (b : Bool) → (b || false) ≡ b
    or_none true = refl
    or_none false = refl

-- what a clause adds with one literal more
has_push : (C : Clause) (l k : Literal) → has (C ++ l ∷ []) k ≡ (same k l || has C k)
has_push C l k = list_any-append (same k) C (l ∷ []) ∙ turn (has C k) (same k l)
  where
    turn : (a b : Bool) → (a || (b || false)) ≡ (b || a)
    turn true true = refl
    turn true false = refl
    turn false true = refl
    turn false false = refl

-- the unit literal adds nothing
pub used_unit : (marks : List ℕ) (stamp : ℕ) (C : Clause) (i : ℕ) (l unit : Literal) (U : Assumed) → i < length C → l ≡ get_or C i l → l ≡ unit
    → marked marks stamp ≡ used_before (record { number = 0; clause = take i C; unit = unit }) U → marked marks stamp ≡ used_before (record { number = 0; clause = take (i + 1) C; unit = unit }) U
used_unit marks stamp C i l unit U below at is so_far = so_far ∙ fun_ext (λ k. ap (λ b. (U k && not (same k unit)) || b) (one k))
  where
    shape : (s h : Bool) → (h && not s) ≡ ((s || h) && not s)
    shape true true = refl
    shape true false = refl
    shape false true = refl
    shape false false = refl

    one : (k : Literal) → (has (take i C) (negation k) && not (same (negation k) unit)) ≡ (has (take (i + 1) C) (negation k) && not (same (negation k) unit))
    one k =
        shape (same (negation k) unit) (has (take i C) (negation k))
        ∙ sym (ap (λ (D : Clause). has D (negation k) && not (same (negation k) unit)) (take_more C i l below ∙ ap (λ (x : Literal). take i C ++ x ∷ []) (sym at ∙ is))
        ∙ ap (λ b. b && not (same (negation k) unit)) (has_push (take i C) unit (negation k)))

-- another literal's negation is used
pub used_other : (marks : List ℕ) (stamp : ℕ) (C : Clause) (i : ℕ) (l unit : Literal) (U : Assumed) → i < length C → l ≡ get_or C i l → l ≢ unit → index_of (negation l) < length marks
    → marked marks stamp ≡ used_before (record { number = 0; clause = take i C; unit = unit }) U
    → marked (set marks (index_of (negation l)) stamp) stamp ≡ used_before (record { number = 0; clause = take (i + 1) C; unit = unit }) U
used_other marks stamp C i l unit U below at apart room so_far =
    assumed_by-set marks stamp stamp (negation l) room ∙ ap (λ (α : Assumed). with_literal α (negation l)) so_far ∙ fun_ext (λ k. one k)
  where
    shape : (s a h n : Bool) → (s ≡ true → n ≡ true) → (s || (a || (h && n))) ≡ (a || ((s || h) && n))
    shape true true h n f = refl
    shape true false true n f = sym (f refl)
    shape true false false n f = sym (f refl)
    shape false true h n f = refl
    shape false false h n f = refl

    free : (k : Literal) → same (negation k) l ≡ true → not (same (negation k) unit) ≡ true
    free k e = ap not (ap (λ j. same j unit) (same-true (negation k) l e) ∙ same-false l unit apart)

    one : (k : Literal) → (same k (negation l) || ((U k && not (same k unit)) || (has (take i C) (negation k) && not (same (negation k) unit))))
        ≡ ((U k && not (same k unit)) || (has (take (i + 1) C) (negation k) && not (same (negation k) unit)))
    one k =
        ap (λ b. b || ((U k && not (same k unit)) || (has (take i C) (negation k) && not (same (negation k) unit)))) (same-negation k l)
        ∙ shape (same (negation k) l) (U k && not (same k unit)) (has (take i C) (negation k)) (not (same (negation k) unit)) (free k)
        ∙ sym (ap (λ (D : Clause). (U k && not (same k unit)) || (has D (negation k) && not (same (negation k) unit))) (take_more C i l below ∙ ap (λ (x : Literal). take i C ++ x ∷ []) (sym at))
        ∙ ap (λ b. (U k && not (same k unit)) || (b && not (same (negation k) unit))) (has_push (take i C) l (negation k)))
