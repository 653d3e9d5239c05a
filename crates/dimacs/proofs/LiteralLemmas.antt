-- Literals: which are the same, their negations, the numbers that stand for them, and their places in a table.
use Rattle.std.proofs.Common.{◌≡◌, ◌≢◌, ℕ, zero, suc, ◌+◌, ◌*◌, ◌<◌, ◌⊎◌, inl, inr, Bool, true, false, not, ℤ, pos, negsuc, nat_abs, [], ◌∷◌, refl, sym, ◌∙◌, ap, subst, arith}
use Rattle.std.specs.Cmp.{IsEquivalence}
use Rattle.std.specs.List.{IsDistinct}
use Rattle.std.proofs.lemmas.Bool.{true≢false, both_ways, cases_Bool, eqb-true, eq-eqb, false_from_ne_true}
use Rattle.std.proofs.lemmas.Map.Keys.{IsDistinct-cons}
use Rattle.dimacs.specs.logic.Literal.{Literal, Pos, Neg, IsWithin, negation, same, literal_true, var_of, index_of, number_of, literal_of_number}

-- ---- the same literal
pub same-true : (k l : Literal) → same k l ≡ true → k ≡ l
same-true (Pos v) (Pos w) e = ap Pos (eqb-true v w e)
same-true (Neg v) (Neg w) e = ap Neg (eqb-true v w e)
same-true (Pos v) (Neg w) e = absurd (true≢false (sym e))
same-true (Neg v) (Pos w) e = absurd (true≢false (sym e))

pub same-itself : (k : Literal) → same k k ≡ true
same-itself (Pos v) = eq-eqb v v refl
same-itself (Neg v) = eq-eqb v v refl

pub same-is : (k l : Literal) → k ≡ l → same k l ≡ true
same-is k l e = subst (λ x. same k x ≡ true) e (same-itself k)

pub same_or_not : (k l : Literal) → (k ≡ l) ⊎ (k ≢ l)
same_or_not k l = elim (cases_Bool (same k l)) [
  | inl t ↦ inl (same-true k l t)
  | inr f ↦ inr (λ e. both_ways (same k l) f (same-is k l e))
]

pub same-false : (k l : Literal) → k ≢ l → same k l ≡ false
same-false k l n = elim (cases_Bool (same k l)) [
  | inl t ↦ absurd (n (same-true k l t))
  | inr f ↦ f
]

pub same-flips : (k l : Literal) → same k l ≡ same l k
same-flips k l = elim (cases_Bool (same k l)) [
  | inl t ↦ t ∙ sym (same-is l k (sym (same-true k l t)))
  | inr n ↦ n ∙ sym (false_from_ne_true (same l k) (λ t. both_ways (same k l) n (same-is k l (sym (same-true l k t)))))
]

pub same_equiv : IsEquivalence same
same_equiv = record { refl = same-itself; symm = same-flips; congr = λ x y z h. subst (λ w. same w z ≡ same y z) (sym (same-true x y h)) refl }

-- ---- negations
pub negation-negation : (l : Literal) → negation (negation l) ≡ l
negation-negation (Pos v) = refl
negation-negation (Neg v) = refl

pub same-negation : (k l : Literal) → same k (negation l) ≡ same (negation k) l
same-negation (Pos v) (Pos w) = refl
same-negation (Pos v) (Neg w) = refl
same-negation (Neg v) (Pos w) = refl
same-negation (Neg v) (Neg w) = refl

pub negation_apart : (l : Literal) → negation l ≢ l
negation_apart (Pos v) = λ e. cc
negation_apart (Neg v) = λ e. cc

pub var_of-negation : (l : Literal) → var_of (negation l) ≡ var_of l
var_of-negation (Pos v) = refl
var_of-negation (Neg v) = refl

pub IsWithin-negation : (n : ℕ) (l : Literal) → IsWithin n l → IsWithin n (negation l)
IsWithin-negation n (Pos v) h = h
IsWithin-negation n (Neg v) h = h

-- two literals of one variable are the same, or one is the other's negation
pub twins : (k l : Literal) → var_of k ≡ var_of l → (k ≡ l) ⊎ (k ≡ negation l)
twins (Pos v) (Pos w) e = inl (ap Pos e)
twins (Pos v) (Neg w) e = inr (ap Pos e)
twins (Neg v) (Pos w) e = inr (ap Neg e)
twins (Neg v) (Neg w) e = inl (ap Neg e)

not-not : (b : Bool) → not (not b) ≡ b
not-not true = refl
not-not false = refl

pub literal_true-negation : (a : ℕ → Bool) (l : Literal) → literal_true a (negation l) ≡ not (literal_true a l)
literal_true-negation a (Pos v) = refl
literal_true-negation a (Neg v) = sym (not-not (a v))

-- ---- the place in a table of all literals of n variables
pub index_below : (n : ℕ) (l : Literal) → IsWithin n l → index_of l < 2 * n + 2
index_below n (Pos v) h = omega (arith, h.1)
index_below n (Neg v) h = omega (arith, h.1)

pub index_apart : (k l : Literal) → k ≢ l → index_of k ≢ index_of l
index_apart (Pos v) (Pos w) d = λ e. d (ap Pos (omega arith))
index_apart (Pos v) (Neg w) d = λ e. omega arith
index_apart (Neg v) (Pos w) d = λ e. omega arith
index_apart (Neg v) (Neg w) d = λ e. d (ap Neg (omega arith))

none_distinct : IsDistinct same []
unfolding IsDistinct
none_distinct = tt

pub distinct_pair : (k l : Literal) → index_of k ≢ index_of l → IsDistinct same (k ∷ l ∷ [])
distinct_pair k l d = IsDistinct-cons same k (l ∷ []) (same-false k l (λ e. d (ap index_of e)), tt) (IsDistinct-cons same l [] tt none_distinct)

-- ---- the number that stands for it
-- the number of the literal of a number
pub number_back : (z : ℤ) → number_of (literal_of_number z) ≡ z
number_back (pos n) = refl
number_back (negsuc n) = refl

-- the literal of the number of a literal
pub literal_back : (l : Literal) → 0 < var_of l → literal_of_number (number_of l) ≡ l
literal_back (Pos v) h = refl
literal_back (Neg zero) h = absurd (omega arith)
literal_back (Neg (suc n)) h = refl

pub number_size : (l : Literal) → nat_abs (number_of l) ≡ var_of l
number_size (Pos v) = refl
number_size (Neg zero) = refl
number_size (Neg (suc n)) = refl

pub literal_size : (z : ℤ) → var_of (literal_of_number z) ≡ nat_abs z
literal_size (pos n) = refl
literal_size (negsuc n) = refl
