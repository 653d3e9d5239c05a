-- The walk of a lemma's hints under the negated lemma and the cube.
use Rattle.std.proofs.Common.{◌≡◌, ◌≢◌, ◌⊎◌, inl, inr, true, false, [], ◌∷◌, sym, ◌∙◌, ap, subst}
use Rattle.std.specs.List.{Contains}
use Rattle.std.proofs.lemmas.Bool.{both_ways, cases_Bool, or_cases, or_left, or_right}
use Rattle.dimacs.specs.logic.Literal.{Literal, Clause, IsTautology, negation, same, has}
use Rattle.dimacs.specs.logic.Propagation.{Assumed, negations, with_literal, IsFalse, IsUnit}
use Rattle.dimacs.proofs.LiteralLemmas.{same-true, same_or_not, negation-negation, negation_apart}
use Rattle.dimacs.proofs.Members.{Contains-head, Contains-cons, Contains-cons_cases, Contains-nil, has-Contains, Contains-has}
use Rattle.lrat_text.specs.Log.{Cube}
use Rattle.proof_lift.specs.inner.Linked.{IsMet, IsImage, IsUnion}

-- what the one assumes the other assumes too
abbrev pub Within : Assumed → Assumed → Type 0
Within α A = (k : Literal) → α k ≡ true → A k ≡ true

-- no literal is assumed with its negation
abbrev pub IsConsistent : Assumed → Type 0
IsConsistent A = (k : Literal) → A k ≡ true → A (negation k) ≡ true → ⊥

-- the walk under the larger assignment, before a hint: it assumes what the given walk does, and the cube
pub record IsBeside (q : Cube) (α A : Assumed) : Type 0 where
  pub more : Within α A
  pub cube : (x : Literal) → Contains q x → A x ≡ true
  pub consistent : IsConsistent A

with_within : (α A : Assumed) (l : Literal) → Within α A → A l ≡ true → Within (with_literal α l) A
with_within α A l h t k e = elim (or_cases (same k l) (α k) e) [
  | inl s ↦ subst (λ x. A x ≡ true) (sym (same-true k l s)) t
  | inr r ↦ h k r
]

pub with_both : (α A : Assumed) (l : Literal) → Within α A → Within (with_literal α l) (with_literal A l)
with_both α A l h k e = elim (or_cases (same k l) (α k) e) [
  | inl s ↦ or_left (same k l) (A k) s
  | inr r ↦ or_right (same k l) (A k) (h k r)
]

with_consistent : (A : Assumed) (l : Literal) → IsConsistent A → A (negation l) ≡ false → IsConsistent (with_literal A l)
with_consistent A l consistent f k a b = elim (or_cases (same k l) (A k) a) [
  | inl s ↦ elim (or_cases (same (negation k) l) (A (negation k)) b) [
    | inl s' ↦ negation_apart k (same-true (negation k) l s' ∙ sym (same-true k l s))
    | inr m ↦ both_ways (A (negation l)) f (subst (λ x. A (negation x) ≡ true) (same-true k l s) m)
  ]
  | inr m ↦ elim (or_cases (same (negation k) l) (A (negation k)) b) [
    | inl s' ↦ both_ways (A (negation l)) f (subst (λ x. A x ≡ true) (sym (negation-negation k) ∙ ap negation (same-true (negation k) l s')) m)
    | inr m' ↦ consistent k m m'
  ]
]

-- the unit literal is true already
pub beside_skip : (q : Cube) (α A : Assumed) (l : Literal) → IsBeside q α A → A l ≡ true → IsBeside q (with_literal α l) A
beside_skip q α A l b t = record { more = with_within α A l b.more t; cube = b.cube; consistent = b.consistent }

-- the unit literal joins
pub beside_join : (q : Cube) (α A : Assumed) (l : Literal) → IsBeside q α A → A (negation l) ≡ false → IsBeside q (with_literal α l) (with_literal A l)
beside_join q α A l b f = record {
  more = with_both α A l b.more;
  cube = λ x i. or_right (same x l) (A x) (b.cube x i);
  consistent = with_consistent A l b.consistent f;
}

-- a false clause has no literal of the cube
pub not_met : (q : Cube) (α A : Assumed) (C : Clause) → IsBeside q α A → IsFalse α C → IsMet q C → ⊥
not_met q α A C b f (x, inside, here) = b.consistent x (b.cube x inside) (b.more (negation x) (f x here))

-- the unit literal of a clause that has a literal of the cube is that literal
pub met_is_unit : (q : Cube) (α A : Assumed) (C : Clause) (l : Literal) → IsBeside q α A → IsUnit α C l → IsMet q C → A l ≡ true
met_is_unit q α A C l b u (x, inside, here) = elim (same_or_not x l) [
  | inl e ↦ subst (λ y. A y ≡ true) e (b.cube x inside)
  | inr n ↦ absurd (b.consistent x (b.cube x inside) (b.more (negation x) (u.others x here n)))
]

-- the image of a false clause is false
pub image_false : (q : Cube) (α A : Assumed) (C D : Clause) → IsBeside q α A → IsFalse α C → IsImage q C D → IsFalse A D
image_false q α A C D b f i k here = elim (i k here) [
  | inl m ↦ b.more (negation k) (f k m)
  | inr m ↦ b.cube (negation k) m
]

-- of the image of a unit clause all but the unit literal is false
pub image_others : (q : Cube) (α A : Assumed) (C D : Clause) (l : Literal) → IsBeside q α A → IsUnit α C l → IsImage q C D
    → (k : Literal) → Contains D k → k ≢ l → A (negation k) ≡ true
image_others q α A C D l b u i k here n = elim (i k here) [
  | inl m ↦ b.more (negation k) (u.others k m n)
  | inr m ↦ b.cube (negation k) m
]

-- so it is false where the unit literal is false or does not stand in it
pub image_stops : (q : Cube) (α A : Assumed) (C D : Clause) (l : Literal) → IsBeside q α A → IsUnit α C l → IsImage q C D
    → (Contains D l → A (negation l) ≡ true) → IsFalse A D
image_stops q α A C D l b u i at k here = elim (same_or_not k l) [
  | inl e ↦ subst (λ x. A (negation x) ≡ true) (sym e) (at (subst (λ x. Contains D x) e here))
  | inr n ↦ image_others q α A C D l b u i k here n
]

-- ---- the lemma and the negated cube
-- a clause that has no literal of the cube makes no pair with the negated cube
pub union_no_pair : (q : Cube) (C E : Clause) → (IsTautology q → ⊥) → (IsTautology C → ⊥) → (IsMet q C → ⊥) → IsUnion q C E → IsTautology E → ⊥
union_no_pair q C E q_none c_none apart union (l, a, b) = elim (union.within l a) [
  | inl c ↦ elim (union.within (negation l) b) [
    | inl c' ↦ c_none (l, c, c')
    | inr x ↦ apart (l, subst (λ y. Contains q y) (negation-negation l) x, c)
  ]
  | inr x ↦ elim (union.within (negation l) b) [
    | inl c' ↦ apart (negation l, x, c')
    | inr y ↦ q_none (negation l, x, y)
  ]
]

pub union_beside : (q : Cube) (C E : Clause) → IsUnion q C E → (IsTautology E → ⊥) → IsBeside q (negations C) (negations E)
union_beside q C E union none = record {
  more = λ k e. Contains-has E (negation k) (union.clause (negation k) (has-Contains C (negation k) e));
  cube = λ x i. Contains-has E (negation x) (union.cube x i);
  consistent = λ k a b. none (negation k, has-Contains E (negation k) a, has-Contains E (negation (negation k)) b);
}

pub met_or_not : (q : Cube) (C : Clause) → IsMet q C ⊎ (IsMet q C → ⊥)
met_or_not [] C = inr (λ m. Contains-nil m.0 m.1)
met_or_not (x ∷ q) C = elim (cases_Bool (has C x)) [
  | inl t ↦ inl (x, Contains-head x q, has-Contains C x t)
  | inr f ↦ elim (met_or_not q C) [
    | inl m ↦ inl (m.0, Contains-cons x m.0 q m.1, m.2)
    | inr none ↦ inr (λ m. elim (Contains-cons_cases x m.0 q m.1) [
      | inl e ↦ both_ways (has C x) f (Contains-has C x (subst (λ y. Contains C y) (sym e) m.2))
      | inr r ↦ none (m.0, r, m.2)
    ])
  ]
]
