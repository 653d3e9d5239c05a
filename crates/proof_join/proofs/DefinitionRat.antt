-- The lines of a definition are resolution asymmetric tautologies.
use Rattle.std.proofs.Common.{◌≡◌, ◌≢◌, ℕ, inl, inr, true, [], ◌∷◌, Some, refl, sym, ◌∙◌, ap, subst, nat_eq}
use Rattle.std.specs.List.{All, Contains, IsDistinct}
use Rattle.std.specs.FinMap.{get, insert}
use Rattle.std.proofs.lemmas.Bool.{cases_eq}
use Rattle.std.proofs.lemmas.List.Elements.{All-nil, All-cons, All-contains}
use Rattle.std.proofs.lemmas.Map.Keys.{IsDistinct-cons}
use Rattle.dimacs.specs.logic.ClauseMap.{ClauseMap, live_in}
use Rattle.dimacs.specs.logic.Literal.{Literal, Pos, Neg, Clause, IsTautology, negation, var_of, has}
use Rattle.dimacs.specs.logic.Propagation.{negations}
use Rattle.dimacs.specs.logic.Rat.{Rat, Group, GroupHolds}
use Rattle.dimacs.proofs.LiteralLemmas.{negation_apart, negation-negation, var_of-negation}
use Rattle.dimacs.proofs.Members.{Contains-head, Contains-cons, Contains-cons_cases, Contains-nil, Contains-has}
use Rattle.proof_join.proofs.MapLemmas.{get_here, get_other}
use Rattle.cube_split.specs.Definitions.{both_clause, part_clause}
use Rattle.cube_split.specs.declared.pair.Pair.{Pair}

-- ---- clauses whose literals have distinct variables have no pair
no_pair_nil : ¬ (IsTautology [])
no_pair_nil (l, here, there) = Contains-nil l here

no_pair_cons : (x : Literal) (C : Clause) → All (λ l. var_of l ≢ var_of x) C → ¬ (IsTautology C) → ¬ (IsTautology (x ∷ C))
no_pair_cons x C apart none (l, here, there) = elim (Contains-cons_cases x l C here) [
  | inl e ↦ elim (Contains-cons_cases x (negation l) C there) [
    | inl f ↦ negation_apart l (sym f ∙ e)
    | inr i ↦ All-contains (λ k. var_of k ≢ var_of x) C (negation l) apart i (var_of-negation l ∙ ap var_of (sym e))
  ]
  | inr i ↦ elim (Contains-cons_cases x (negation l) C there) [
    | inl f ↦ All-contains (λ k. var_of k ≢ var_of x) C l apart i (sym (var_of-negation l) ∙ ap var_of (sym f))
    | inr j ↦ none (l, i, j)
  ]
]

all_one : (P : Literal → Type 0) (l : Literal) → P l → All P (l ∷ [])
all_one P l h = All-cons P l [] h (All-nil P)

-- ---- the groups
distinct_none : IsDistinct nat_eq []
unfolding IsDistinct
distinct_none = tt

distinct_one : (n : ℕ) → IsDistinct nat_eq (n ∷ [])
distinct_one n = IsDistinct-cons nat_eq n [] tt distinct_none

-- a variable that no live clause has
abbrev pub IsUnused : ClauseMap → ℕ → Type 0
IsUnused M d = (n : ℕ) (C : Clause) → live_in M n C → All (λ l. var_of l ≢ d) C

-- ---- the first line
pub both_rat : (M : ClauseMap) (d : ℕ) (p : Pair) → IsUnused M d → var_of p.first ≢ d → var_of p.second ≢ d → var_of p.first ≢ var_of p.second → Rat (live_in M) (both_clause d p) [] []
both_rat M d p unused a b apart =
    let x : Literal = negation p.first in
    let y : Literal = negation p.second in
    record {
      pivot = Pos d;
      rest = x ∷ y ∷ [];
      begins = refl;
      no_pair = no_pair_cons (Pos d) (x ∷ y ∷ [])
          (All-cons (λ l. var_of l ≢ d) x (y ∷ []) (λ e. a (sym (var_of-negation p.first) ∙ e)) (all_one (λ l. var_of l ≢ d) y (λ e. b (sym (var_of-negation p.second) ∙ e))))
          (no_pair_cons x (y ∷ [])
          (all_one (λ l. var_of l ≢ var_of x) y (λ e. apart (sym (var_of-negation p.first) ∙ sym e ∙ var_of-negation p.second)))
          (no_pair_cons y [] (All-nil (λ l. var_of l ≢ var_of y)) no_pair_nil));
      reached = negations (both_clause d p);
      leads = refl;
      once = distinct_none;
      hold = λ g inside. absurd (Contains-nil g inside);
      complete = λ id D lives holds. absurd (All-contains (λ l. var_of l ≢ d) D (Neg d) (unused id D lives) holds refl);
    }

-- ---- a line for one of the literals: one clause holds d, and the negation of the literal blocks it
part_rat : (M : ClauseMap) (n d : ℕ) (l : Literal) (D : Clause) → get M n ≡ Some D → Contains D (Pos d) → Contains D (negation l) → var_of l ≢ d
    → ((k : ℕ) (E : Clause) → get M k ≡ Some E → Contains E (Pos d) → n ≡ k) → Rat (live_in M) (part_clause d l) [] ((n, []) ∷ [])
part_rat M n d l D lives holds blocks apart one = record {
  pivot = Neg d;
  rest = l ∷ [];
  begins = refl;
  no_pair = no_pair_cons (Neg d) (l ∷ []) (all_one (λ k. var_of k ≢ d) l apart) (no_pair_cons l [] (All-nil (λ k. var_of k ≢ var_of l)) no_pair_nil);
  reached = negations (part_clause d l);
  leads = refl;
  once = distinct_one n;
  hold = λ g inside. elim (Contains-cons_cases (n, []) g [] inside) [
    | inl e ↦ subst (λ (h : Group). GroupHolds (live_in M) (negations (part_clause d l)) (Neg d) h) e group
    | inr i ↦ absurd (Contains-nil g i)
  ];
  complete = λ id E live has_it. subst (λ (k : ℕ). Contains (n ∷ []) k) (one id E live has_it) (Contains-head n []);
}
  where
    assumed : has (part_clause d l) (negation (negation l)) ≡ true
    assumed = ap (has (part_clause d l)) (negation-negation l) ∙ Contains-has (part_clause d l) l (Contains-cons (Neg d) l (l ∷ []) (Contains-head l []))

    other : negation l ≢ Pos d
    other e = apart (sym (var_of-negation l) ∙ ap var_of e)

    group : GroupHolds (live_in M) (negations (part_clause d l)) (Neg d) (n, [])
    group = (D, lives, holds, inl (inl (negation l, blocks, other, assumed), refl))

module _ (M : ClauseMap) (n d : ℕ) (p : Pair) (unused : IsUnused M d) (a : var_of p.first ≢ d) (b : var_of p.second ≢ d) where
  one_holder : (k : ℕ) (E : Clause) → get (insert M n (both_clause d p)) k ≡ Some E → Contains E (Pos d) → n ≡ k
  one_holder k E live holds = elim (cases_eq k n) [
    | inl e ↦ sym e
    | inr ne ↦ absurd (All-contains (λ l. var_of l ≢ d) E (Pos d) (unused k E (sym (get_other M n k (both_clause d p) ne) ∙ live)) holds refl)
  ]

  pub first_rat : Rat (live_in (insert M n (both_clause d p))) (part_clause d p.first) [] ((n, []) ∷ [])
  first_rat =
      part_rat (insert M n (both_clause d p)) n d p.first (both_clause d p) (get_here M n (both_clause d p))
      (Contains-head (Pos d) (negation p.first ∷ negation p.second ∷ []))
      (Contains-cons (Pos d) (negation p.first) (negation p.first ∷ negation p.second ∷ []) (Contains-head (negation p.first) (negation p.second ∷ [])))
      a one_holder

  pub second_rat : (k : ℕ) → n ≢ k → Rat (live_in (insert (insert M n (both_clause d p)) k (part_clause d p.first))) (part_clause d p.second) [] ((n, []) ∷ [])
  second_rat k apart =
      part_rat (insert (insert M n (both_clause d p)) k (part_clause d p.first)) n d p.second (both_clause d p)
      (get_other (insert M n (both_clause d p)) k n (part_clause d p.first) apart ∙ get_here M n (both_clause d p))
      (Contains-head (Pos d) (negation p.first ∷ negation p.second ∷ []))
      (Contains-cons (Pos d) (negation p.second) (negation p.first ∷ negation p.second ∷ []) (Contains-cons (negation p.first) (negation p.second) (negation p.second ∷ []) (Contains-head (negation p.second) [])))
      b still_one
    where
      not_there : (E : Clause) → part_clause d p.first ≡ E → Contains E (Pos d) → ⊥
      not_there E e holds = elim (Contains-cons_cases (Neg d) (Pos d) (p.first ∷ []) (subst (λ (C : Clause). Contains C (Pos d)) (sym e) holds)) [
        | inl f ↦ cc
        | inr i ↦ elim (Contains-cons_cases p.first (Pos d) [] i) [
          | inl f ↦ a (ap var_of f)
          | inr j ↦ Contains-nil (Pos d) j
        ]
      ]

      same_clause : (C E : Clause) → Some C ≡ Some E → C ≡ E
      same_clause C E e = cc

      still_one : (i : ℕ) (E : Clause) → get (insert (insert M n (both_clause d p)) k (part_clause d p.first)) i ≡ Some E → Contains E (Pos d) → n ≡ i
      still_one i E live holds = elim (cases_eq i k) [
        | inl e ↦ absurd (not_there E (same_clause (part_clause d p.first) E
            (sym (get_here (insert M n (both_clause d p)) k (part_clause d p.first)) ∙ ap (get (insert (insert M n (both_clause d p)) k (part_clause d p.first))) (sym e) ∙ live)) holds)
        | inr ne ↦ one_holder i E (sym (get_other (insert M n (both_clause d p)) k i (part_clause d p.first) ne) ∙ live) holds
      ]
