-- The literals of a resolvent, one after another.
use Rattle.std.proofs.Common.{◌≡◌, ◌≢◌, ℕ, ◌⊎◌, inl, inr, Bool, true, false, eqb, MatchBool, [], ◌∷◌, ◌++◌, take, drop, sym, ◌∙◌, ap, subst}
use Rattle.std.specs.List.{Contains, IsDistinct}
use Rattle.std.proofs.lemmas.Bool.{true≢false, eqb-true, eq-eqb}
use Rattle.std.proofs.lemmas.List.{take-append-drop}
use Rattle.std.proofs.lemmas.List.Elements.{Contains-push, Contains-push_cases, Contains-append_cases, Contains-append_left}
use Rattle.std.proofs.lemmas.Map.Keys.{IsDistinct-push}
use Rattle.dimacs.specs.logic.Literal.{Literal, Clause, IsTautology, negation, same, has, var_of, index_of}
use Rattle.dimacs.proofs.LiteralLemmas.{same_equiv, same_or_not, twins, negation-negation, negation_apart, var_of-negation, index_apart}
use Rattle.dimacs.proofs.Members.{Contains-cons_cases, Contains-head, Contains-nil, Contains-has, has-Contains}
use Rattle.elimination.specs.Kept.{IsSubset}
use Rattle.elimination.specs.inner.Resolvents.{IsApart, IsResolvent}
use Rattle.elimination.specs.inner.Gathered.{IsGathered, IsRefused}

none_distinct : IsDistinct same []
unfolding IsDistinct
none_distinct = tt

-- ---- one literal
-- two literals are compared by their places in a table
pub same_place : (k l : Literal) (b : Bool) → b ≡ eqb (index_of k) (index_of l) → b ≡ true → k ≡ l
same_place k l b e t = elim (same_or_not k l) [
  | inl s ↦ s
  | inr d ↦ absurd (index_apart k l d (eqb-true (index_of k) (index_of l) (sym e ∙ t)))
]

pub other_place : (k l : Literal) (b : Bool) → b ≡ eqb (index_of k) (index_of l) → b ≡ false → k ≢ l
other_place k l b e f s = true≢false (sym (e ∙ eq-eqb (index_of k) (index_of l) (ap index_of s)) ∙ f)

one_is : (l k : Literal) → Contains (l ∷ []) k → l ≡ k
one_is l k h = elim (Contains-cons_cases l k [] h) [
  | inl e ↦ e
  | inr z ↦ absurd (Contains-nil k z)
]

-- a clause without the literal
absent : (C : Clause) (l : Literal) → has C l ≡ false → Contains C l → ⊥
absent C l e h = true≢false (sym (Contains-has C l h) ∙ e)

-- a literal of the variable of another one is that one, or its negation
of_variable : (l x : Literal) → l ≢ x → negation l ≢ x → var_of l ≢ var_of x
of_variable l x differs apart e = elim (twins l x e) [
  | inl s ↦ differs s
  | inr s ↦ apart (ap negation s ∙ negation-negation x)
]

-- what stays as it is
module _ (C : Clause) (x : Literal) (out : Clause) (there : (k : Literal) → Contains C k → (k ≡ x) ⊎ Contains out k) where
  gathered_same : IsGathered C x out out
  gathered_same = record {
    stays = λ k h. h;
    kept = there;
    only = λ k h. inl h;
    no_pair = λ h. h;
    apart = λ h. h;
    distinct = λ h. h;
  }

pub gathered_skip : (l x : Literal) (out : Clause) → l ≡ x → IsGathered (l ∷ []) x out out
gathered_skip l x out e = gathered_same (l ∷ []) x out (λ k h. inl (sym (one_is l k h) ∙ e))

pub gathered_there : (l x : Literal) (out : Clause) → has out l ≡ true → IsGathered (l ∷ []) x out out
gathered_there l x out e = gathered_same (l ∷ []) x out (λ k h. inr (subst (λ j. Contains out j) (one_is l k h) (has-Contains out l e)))

module _ (l x : Literal) (out : Clause) (differs : l ≢ x) (other : negation l ≢ x) (unpaired : has out (negation l) ≡ false) (absent_yet : has out l ≡ false) where
  new_pair : ¬ (IsTautology out) → ¬ (IsTautology (out ++ l ∷ []))
  new_pair none (k, here, there) = elim (Contains-push_cases out l k here) [
    | inl a ↦ elim (Contains-push_cases out l (negation k) there) [
      | inl b ↦ none (k, a, b)
      | inr b ↦ absent out (negation l) unpaired (subst (λ j. Contains out j) (sym (negation-negation k) ∙ ap negation (sym b)) a)
    ]
    | inr a ↦ elim (Contains-push_cases out l (negation k) there) [
      | inl b ↦ absent out (negation l) unpaired (subst (λ j. Contains out (negation j)) (sym a) b)
      | inr b ↦ negation_apart k (sym b ∙ a)
    ]
  ]

  pub gathered_new : IsGathered (l ∷ []) x out (out ++ l ∷ [])
  gathered_new = record {
    stays = λ k h. Contains-append_left out (l ∷ []) k h;
    kept = λ k h. inr (subst (λ j. Contains (out ++ l ∷ []) j) (one_is l k h) (Contains-push out l));
    only = λ k h. elim (Contains-push_cases out l k h) [
      | inl a ↦ inl a
      | inr e ↦ inr (subst (λ j. Contains (l ∷ []) j) e (Contains-head l []), λ s. differs (e ∙ s))
    ];
    no_pair = new_pair;
    apart = λ free k h. elim (Contains-push_cases out l k h) [
      | inl a ↦ free k a
      | inr e ↦ subst (λ j. var_of j ≢ var_of x) e (of_variable l x differs other)
    ];
    distinct = λ d. IsDistinct-push same_equiv out l d absent_yet;
  }

-- the literal is to be in the clause
module _ (l x : Literal) (R : Clause) (kept : (k : Literal) → Contains (l ∷ []) k → (k ≡ x) ⊎ Contains R k) where
  is_to_be : l ≢ x → Contains R l
  is_to_be differs = elim (kept l (Contains-head l [])) [
    | inl e ↦ absurd (differs e)
    | inr h ↦ h
  ]

pub refused_negation : (l x : Literal) (out : Clause) → l ≢ x → negation l ≡ x → IsRefused (l ∷ []) x out
refused_negation l x out differs e R more kept none free = free l (is_to_be l x R kept differs) (sym (var_of-negation l) ∙ ap var_of e)

pub refused_pair : (l x : Literal) (out : Clause) → l ≢ x → has out (negation l) ≡ true → IsRefused (l ∷ []) x out
refused_pair l x out differs e R more kept none free = none (l, is_to_be l x R kept differs, more (negation l) (has-Contains out (negation l) e))

-- ---- one literal more
pub gathered_begin : (x : Literal) (out : Clause) → IsGathered [] x out out
gathered_begin x out = gathered_same [] x out (λ k h. absurd (Contains-nil k h))

pub gathered_more : (C : Clause) (l x : Literal) (a b c : Clause) → IsGathered C x a b → IsGathered (l ∷ []) x b c → IsGathered (C ++ l ∷ []) x a c
gathered_more C l x a b c first second = record {
  stays = λ k h. second.stays k (first.stays k h);
  kept = λ k h. elim (Contains-append_cases C (l ∷ []) k h) [
    | inl i ↦ elim (first.kept k i) [
      | inl e ↦ inl e
      | inr j ↦ inr (second.stays k j)
    ]
    | inr i ↦ second.kept k i
  ];
  only = λ k h. elim (second.only k h) [
    | inl i ↦ elim (first.only k i) [
      | inl j ↦ inl j
      | inr j ↦ inr (Contains-append_left C (l ∷ []) k j.0, j.1)
    ]
    | inr i ↦ inr (subst (λ j. Contains (C ++ l ∷ []) j) (one_is l k i.0) (Contains-push C l), i.1)
  ];
  no_pair = λ h. second.no_pair (first.no_pair h);
  apart = λ h. second.apart (first.apart h);
  distinct = λ h. second.distinct (first.distinct h);
}

pub front_in : (i : ℕ) (xs : Clause) → IsSubset (take i xs) xs
front_in i xs l h = subst (λ ys. Contains ys l) (take-append-drop i xs) (Contains-append_left (take i xs) (drop i xs) l h)

-- what was gathered is in each clause that has what it was gathered from
stands_in : (C D : Clause) (x : Literal) (a b R : Clause) → IsGathered C x a b → IsSubset C D → IsSubset a R → ((k : Literal) → Contains D k → (k ≡ x) ⊎ Contains R k) → IsSubset b R
stands_in C D x a b R h within more kept k i = elim (h.only k i) [
  | inl j ↦ more k j
  | inr j ↦ elim (kept k (within k j.0)) [
    | inl e ↦ absurd (j.1 e)
    | inr there ↦ there
  ]
]

pub refused_more : (C D : Clause) (l x : Literal) (a b : Clause) → IsSubset C D → Contains D l → IsGathered C x a b → IsRefused (l ∷ []) x b → IsRefused D x a
refused_more C D l x a b within inside first refused R more kept none free =
    refused R (stands_in C D x a b R first within more kept) (λ k h. kept k (subst (λ j. Contains D j) (one_is l k h) inside)) none free

-- ---- both clauses
apart_negation : (x : Literal) (R : Clause) → IsApart x R → IsApart (negation x) R
apart_negation x R free l h e = free l h (e ∙ var_of-negation x)

apart_back : (x : Literal) (R : Clause) → IsApart (negation x) R → IsApart x R
apart_back x R free l h e = free l h (e ∙ sym (var_of-negation x))

pub resolved : (C D : Clause) (x : Literal) (a R : Clause) → has C x ≡ true → has D (negation x) ≡ true → IsGathered C x [] a → IsGathered D (negation x) a R → IsResolvent C D x R
resolved C D x a R left right first second = record {
  left = has-Contains C x left;
  right = has-Contains D (negation x) right;
  left_kept = λ l h. elim (first.kept l h) [
    | inl e ↦ inl e
    | inr i ↦ inr (second.stays l i)
  ];
  right_kept = second.kept;
  only = λ l h. elim (second.only l h) [
    | inl i ↦ elim (first.only l i) [
      | inl z ↦ absurd (Contains-nil l z)
      | inr j ↦ inl j
    ]
    | inr i ↦ inr i
  ];
  no_pair = second.no_pair (first.no_pair (λ p. Contains-nil p.0 p.1));
  apart = apart_back x R (second.apart (apart_negation x a (first.apart (λ l h. absurd (Contains-nil l h)))));
  distinct = second.distinct (first.distinct none_distinct);
}

pub none_left : (C D : Clause) (x : Literal) → has C x ≡ false → (R : Clause) → ¬ (IsResolvent C D x R)
none_left C D x e R r = absent C x e r.left

pub none_right : (C D : Clause) (x : Literal) → has D (negation x) ≡ false → (R : Clause) → ¬ (IsResolvent C D x R)
none_right C D x e R r = absent D (negation x) e r.right

pub none_first : (C D : Clause) (x : Literal) → IsRefused C x [] → (R : Clause) → ¬ (IsResolvent C D x R)
none_first C D x refused R r = refused R (λ l h. absurd (Contains-nil l h)) r.left_kept r.no_pair r.apart

pub none_second : (C D : Clause) (x : Literal) (a : Clause) → IsGathered C x [] a → IsRefused D (negation x) a → (R : Clause) → ¬ (IsResolvent C D x R)
none_second C D x a first refused R r =
    refused R (stands_in C C x [] a R first (λ l h. h) (λ l h. absurd (Contains-nil l h)) r.left_kept) r.right_kept r.no_pair (apart_negation x R r.apart)

pub resolved_or_none : (C D : Clause) (x : Literal) (a R : Clause) (b : Bool) → has C x ≡ true → has D (negation x) ≡ true → IsGathered C x [] a
    → MatchBool b (IsGathered D (negation x) a R) (IsRefused D (negation x) a) → MatchBool b (IsResolvent C D x R) ((S : Clause) → ¬ (IsResolvent C D x S))
resolved_or_none C D x a R true left right first second = resolved C D x a R left right first second
resolved_or_none C D x a R false left right first refused = none_second C D x a first refused
