-- Members of a list whose head is known, members that a filter keeps, and literals of a clause.
use Rattle.std.proofs.Common.{zero, suc, ◌≡◌, ◌⊎◌, inl, inr, Bool, true, List, [], ◌∷◌, refl, sym, subst, arith}
use Rattle.std.specs.List.{Contains, filter}
use Rattle.std.proofs.lemmas.Bool.{true≢false, or_left, or_right, or_cases}
use Rattle.std.proofs.lemmas.List.Elements.{All-contains, All-contains_itself, All-filter, filter_passes, Contains-append_cases, Contains-append_right}
use Rattle.dimacs.specs.logic.Literal.{Literal, Clause, same, has}
use Rattle.dimacs.proofs.LiteralLemmas.{same-true, same-is}

pub Contains-head : {X : Type 0} (x : X) (xs : List X) → Contains (x ∷ xs) x
Contains-head x xs = (0, omega arith, refl)

pub Contains-cons : {X : Type 0} (x y : X) (xs : List X) → Contains xs y → Contains (x ∷ xs) y
Contains-cons x y xs h = Contains-append_right (x ∷ []) xs y h

pub Contains-cons_cases : {X : Type 0} (x y : X) (xs : List X) → Contains (x ∷ xs) y → (x ≡ y) ⊎ Contains xs y
Contains-cons_cases x y xs h = elim (Contains-append_cases (x ∷ []) xs y h) [
  | inl one ↦ inl (at_one x y one)
  | inr rest ↦ inr rest
]
  where
    at_one : {X : Type 0} (x y : X) → Contains (x ∷ []) y → x ≡ y
    at_one x y (zero, below, is) = is
    at_one x y (suc k, below, is) = absurd (omega arith)

pub Contains-nil : {X : Type 0} (y : X) → Contains [] y → ⊥
Contains-nil y (k, below, is) = omega arith

-- what a filter keeps stood there, and passes the test
pub Contains-filter : {X : Type 0} (p : X → Bool) (xs : List X) (y : X) → Contains (filter p xs) y → Contains xs y × (p y ≡ true)
Contains-filter p xs y h = (
  All-contains (Contains xs) (filter p xs) y (All-filter p (Contains xs) xs (All-contains_itself xs)) h,
  All-contains (λ x. p x ≡ true) (filter p xs) y (filter_passes p xs) h,
)

pub has-Contains : (C : Clause) (l : Literal) → has C l ≡ true → Contains C l
has-Contains [] l e = absurd (true≢false (sym e))
has-Contains (k ∷ C) l e = elim (or_cases (same l k) (has C l) e) [
  | inl t ↦ subst (λ x. Contains (k ∷ C) x) (sym (same-true l k t)) (Contains-head k C)
  | inr r ↦ Contains-cons k l C (has-Contains C l r)
]

pub Contains-has : (C : Clause) (l : Literal) → Contains C l → has C l ≡ true
Contains-has [] l h = absurd (Contains-nil l h)
Contains-has (k ∷ C) l h = elim (Contains-cons_cases k l C h) [
  | inl e ↦ or_left (same l k) (has C l) (same-is l k (sym e))
  | inr r ↦ or_right (same l k) (has C l) (Contains-has C l r)
]
