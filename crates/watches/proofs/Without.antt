-- The clauses without the one of a number.
use Rattle.std.proofs.Common.{◌≡◌, ℕ, ◌⊎◌, inl, inr, Bool, true, false, not, cond, eqb, List, [], ◌∷◌, refl, sym, ◌∙◌, ap, subst}
use Rattle.std.specs.List.{Contains, filter}
use Rattle.std.proofs.lemmas.Bool.{ne_eqb, eqb-false, not-true}
use Rattle.clause_arena.specs.declared.reference.Ref.{Ref}
use Rattle.watches.specs.Law.{AreWithout}
use Rattle.watches.specs.ClauseNumbers.{numbers}
use Rattle.dimacs.proofs.Members.{Contains-head, Contains-cons, Contains-cons_cases, Contains-nil}

abbrev pub without : List Ref → ℕ → List Ref
without xs n = filter (λ (a : Ref). not (eqb a.number n)) xs

add_kept : (b : Bool) (x : Ref) (xs : List Ref) (k : ℕ) → Contains (numbers xs) k → Contains (numbers (cond b (x ∷ xs) xs)) k
add_kept true x xs k h = Contains-cons x.number k (numbers xs) h
add_kept false x xs k h = h

add_here : (b : Bool) (x : Ref) (xs : List Ref) → b ≡ true → Contains (numbers (cond b (x ∷ xs) xs)) x.number
add_here true x xs e = Contains-head x.number (numbers xs)
add_here false x xs e = absurd (cc)

from_either : (b : Bool) (x : Ref) (xs : List Ref) (k : ℕ) → Contains (numbers (cond b (x ∷ xs) xs)) k → ((b ≡ true) × (x.number ≡ k)) ⊎ Contains (numbers xs) k
from_either true x xs k h = elim (Contains-cons_cases x.number k (numbers xs) h) [ inl e ↦ inl (refl, e) | inr r ↦ inr r ]
from_either false x xs k h = inr h

kept : (xs : List Ref) (n k : ℕ) → Contains (numbers (without xs n)) k → Contains (numbers xs) k × (k ≡ n → ⊥)
kept [] n k h = absurd (Contains-nil k h)
kept (x ∷ xs) n k h = elim (from_either (not (eqb x.number n)) x (without xs n) k h) [
  | inl e ↦ (subst (Contains (numbers (x ∷ xs))) e.1 (Contains-head x.number (numbers xs)), λ q. eqb-false x.number n (not-true (eqb x.number n) e.0) (e.1 ∙ q))
  | inr r ↦ let i = kept xs n k r in (Contains-cons x.number k (numbers xs) i.0, i.1)
]

stays : (xs : List Ref) (n k : ℕ) → Contains (numbers xs) k → (k ≡ n → ⊥) → Contains (numbers (without xs n)) k
stays [] n k h d = absurd (Contains-nil k h)
stays (x ∷ xs) n k h d = elim (Contains-cons_cases x.number k (numbers xs) h) [
  | inl e ↦ subst (Contains (numbers (without (x ∷ xs) n))) e (add_here (not (eqb x.number n)) x (without xs n) (ap not (ne_eqb x.number n (λ q. d (sym e ∙ q)))))
  | inr r ↦ add_kept (not (eqb x.number n)) x (without xs n) k (stays xs n k r d)
]

pub are_without : (xs : List Ref) (n : ℕ) → AreWithout (numbers xs) n (numbers (without xs n))
are_without xs n k = (kept xs n k, λ h. stays xs n k h.0 h.1)
