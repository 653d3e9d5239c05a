-- What follows by reverse unit propagation is true if the live clauses are.
use Rattle.std.proofs.Common.{◌≡◌, ℕ, Bool, true, not, List, [], ◌∷◌, ◌⊎◌, inl, inr, refl, sym, ◌∙◌, ap, subst}
use Rattle.std.specs.List.{Contains}
use Rattle.std.proofs.lemmas.Bool.{both_ways, not-true, cases_Bool, or_cases}
use Rattle.dimacs.specs.logic.ClauseMap.{Live}
use Rattle.dimacs.specs.logic.Literal.{Literal, Pos, Neg, negation, same, literal_true, Clause, IsTautology, IsTrueIn}
use Rattle.dimacs.specs.logic.Propagation.{Assumed, negations, with_literal, Leads, Rup}
use Rattle.dimacs.proofs.LiteralLemmas.{same-true, same_or_not}
use Rattle.dimacs.proofs.Members.{Contains-head, Contains-cons, Contains-cons_cases, Contains-nil, has-Contains}
use Rattle.cube_solve.specs.inner.Twins.{AreTwins}

pub not_both : (a : ℕ → Bool) (l : Literal) → literal_true a l ≡ true → literal_true a (negation l) ≡ true → ⊥
not_both a (Pos v) t n = both_ways (a v) (not-true (a v) n) t
not_both a (Neg v) t n = both_ways (a v) (not-true (a v) t) n

either_true : (a : ℕ → Bool) (l : Literal) → (literal_true a l ≡ true) ⊎ (literal_true a (negation l) ≡ true)
either_true a (Pos v) = elim (cases_Bool (a v)) [ inl t ↦ inl t | inr f ↦ inr (ap not f) ]
either_true a (Neg v) = elim (cases_Bool (a v)) [ inl t ↦ inr t | inr f ↦ inl (ap not f) ]

-- a clause is true, or the negations of its literals are
true_or_negated : (a : ℕ → Bool) (C : Clause) → IsTrueIn a C ⊎ ((l : Literal) → Contains C l → literal_true a (negation l) ≡ true)
true_or_negated a [] = inr (λ l h. absurd (Contains-nil l h))
true_or_negated a (k ∷ C) = elim (either_true a k) [
  | inl t ↦ inl (k, Contains-head k C, t)
  | inr f ↦ elim (true_or_negated a C) [
    | inl x ↦ inl (x.0, Contains-cons k x.0 C x.1, x.2)
    | inr rest ↦ inr (λ l h. elim (Contains-cons_cases k l C h) [
      | inl e ↦ subst (λ x. literal_true a (negation x) ≡ true) e f
      | inr m ↦ rest l m
    ])
  ]
]

double : (l : Literal) → negation (negation l) ≡ l
double (Pos v) = refl
double (Neg v) = refl

pub true_twin : (a : ℕ → Bool) (C D : Clause) → AreTwins C D → IsTrueIn a C → IsTrueIn a D
true_twin a C D e t = (t.0, (e t.0).0 t.1, t.2)

pub tautology_true : (a : ℕ → Bool) (C : Clause) → IsTautology C → IsTrueIn a C
tautology_true a C t = elim (either_true a t.0) [ inl h ↦ (t.0, t.1, h) | inr h ↦ (negation t.0, t.2, h) ]

module _ (a : ℕ → Bool) (live : Live) (sat : (n : ℕ) (C : Clause) → live n C → IsTrueIn a C) where
  leads_true : (hints : List ℕ) (α β : Assumed) → ((l : Literal) → α l ≡ true → literal_true a l ≡ true) → Leads live α hints β → (l : Literal) → β l ≡ true → literal_true a l ≡ true
  leads_true [] α β all e l t = all l (ap (λ (x : Assumed). x l) e ∙ t)
  leads_true (hint ∷ hints) α β all (C, x, lives, unit, rest) k u = leads_true hints (with_literal α x) β more rest k u
    where
      here : literal_true a x ≡ true
      here = let t = sat hint C lives in elim (same_or_not t.0 x) [
        | inl e ↦ subst (λ y. literal_true a y ≡ true) e t.2
        | inr n ↦ absurd (not_both a t.0 t.2 (all (negation t.0) (unit.others t.0 t.1 n)))
      ]

      more : (l : Literal) → with_literal α x l ≡ true → literal_true a l ≡ true
      more l h = elim (or_cases (same l x) (α l) h) [
        | inl s ↦ subst (λ y. literal_true a y ≡ true) (sym (same-true l x s)) here
        | inr r ↦ all l r
      ]

  pub rup_true : (C : Clause) (hints : List ℕ) → Rup live C hints → IsTrueIn a C
  rup_true C hints rup = elim (true_or_negated a C) [
    | inl t ↦ t
    | inr f ↦
        let r = rup.refutes in
        let reached = leads_true r.front (negations C) r.reached (λ l h. subst (λ x. literal_true a x ≡ true) (double l) (f (negation l) (has-Contains C (negation l) h))) r.leads in
        let t = sat r.last r.clause r.lives in
        absurd (not_both a t.0 t.2 (reached (negation t.0) (r.conflict t.0 t.1)))
  ]
