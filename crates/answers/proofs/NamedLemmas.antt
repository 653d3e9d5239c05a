-- Literals that are named, and what they satisfy.
use Rattle.std.proofs.Common.{◌||◌, ◌≡◌, ℕ, suc, ◌+◌, ◌<◌, ◌≤◌, Bool, true, false, cond, List, [], Some, None, length, get_or, drop, refl, sym, subst, ap, ◌∙◌, inl, inr, drop-cons, add-one, Result, Ok, Err, OnOk, OnErr}
use Rattle.std.specs.List.{position_from}
use Rattle.std.proofs.lemmas.Bool.{true≢false, or_cases}
use Rattle.std.proofs.lemmas.List.{drop_all}
use Rattle.dimacs.specs.logic.Literal.{Literal, Clause, negation, same}
use Rattle.dimacs.specs.logic.Propagation.{Assumed, with_literal}
use Rattle.dimacs.proofs.LiteralLemmas.{same-true, same-false, negation-negation, negation_apart}
use Rattle.answers.specs.inner.Lines.{HasNoPair}

or_both : (a b : Bool) → a ≡ false → b ≡ false → (a || b) ≡ false
or_both a b e f = rw e f

-- one literal more whose negation is not named
pub no_pair_with : (α : Assumed) (l : Literal) → HasNoPair α → α (negation l) ≡ false → HasNoPair (with_literal α l)
no_pair_with α l none free k named = elim (or_cases (same k l) (α k) named) [
  | inl is ↦ subst (λ x. with_literal α l (negation x) ≡ false) (sym (same-true k l is)) (or_both (same (negation l) l) (α (negation l)) (same-false (negation l) l (negation_apart l)) free)
  | inr before ↦ or_both (same (negation k) l) (α (negation k))
      (same-false (negation k) l (λ e. true≢false (sym before ∙ ap α (sym (negation-negation k) ∙ ap negation e) ∙ free))) (none k before)
]

module _ (p : Clause → Bool) (cs : List Clause) (i : ℕ) (C : Clause) (lt : i < length cs) (is : C ≡ get_or cs i []) where
  at_place : position_from p (i + 1) (drop i cs) ≡ cond (p C) (Some (i + 1)) (position_from p ((i + 1) + 1) (drop (i + 1) cs))
  at_place =
      ap (λ (d : List Clause). position_from p (i + 1) d) (drop-cons cs i [] lt)
      ∙ ap (λ (x : Clause). cond (p x) (Some (i + 1)) (position_from p ((i + 1) + 1) (drop (suc i) cs))) (sym is)
      ∙ ap (λ (k : ℕ). cond (p C) (Some (i + 1)) (position_from p ((i + 1) + 1) (drop k cs))) (sym (add-one i))

  pub found_at : p C ≡ true → position_from p (i + 1) (drop i cs) ≡ Some (i + 1)
  found_at h = at_place ∙ rw h refl

  pub not_at : p C ≡ false → position_from p (i + 1) (drop i cs) ≡ position_from p ((i + 1) + 1) (drop (i + 1) cs)
  not_at h = at_place ∙ rw h refl

pub none_left : (p : Clause → Bool) (cs : List Clause) (i n : ℕ) → length cs ≤ i → position_from p n (drop i cs) ≡ None
none_left p cs i n h = ap (λ (d : List Clause). position_from p n d) (drop_all i cs h)

pub no_pair_after : {E : Type 0} (r : Result (Unit {0}) E) (α β : Assumed) (l : Literal) → OnOk r (β ≡ with_literal α l) → OnErr r (β ≡ α) → HasNoPair α → α (negation l) ≡ false → HasNoPair β
no_pair_after (Ok x) α β l ok err none free = subst HasNoPair (sym ok) (no_pair_with α l none free)
no_pair_after (Err e) α β l ok err none free = subst HasNoPair (sym err) none
