-- Tests over all elements of a list.
use Rattle.std.proofs.Common.{◌≡◌, ◌∙◌, ℕ, ◌<◌, Bool, true, false, ◌&&◌, cond, List, [], ◌∷◌, length, refl, sym, ap, arith, nat_eq}
use Rattle.std.specs.List.{list_all}
use Rattle.std.specs.List.Sorted.{IsPermutation}
use Rattle.std.proofs.lemmas.List.Folds.{sum_by-zero}
use Rattle.std.proofs.lemmas.List.Sorted.{sum_by-IsPermutation}

pub all_same : {X : Type 0} (f g : X → Bool) (xs : List X) → ((x : X) → f x ≡ g x) → list_all f xs ≡ list_all g xs
all_same f g [] h = refl
all_same f g (x ∷ xs) h = ap (λ b. b && list_all f xs) (h x) ∙ ap (λ b. g x && b) (all_same f g xs h)

pub all_true : {X : Type 0} (f : X → Bool) (xs : List X) → ((x : X) → f x ≡ true) → list_all f xs ≡ true
all_true f [] h = refl
all_true f (x ∷ xs) h = ap (λ b. b && list_all f xs) (h x) ∙ all_true f xs h

pub none_all : {X : Type 0} (f : X → Bool) (xs : List X) → ((x : X) → f x ≡ false) → 0 < length xs → list_all f xs ≡ false
none_all f [] h some = absurd (omega arith)
none_all f (x ∷ xs) h some = ap (λ b. b && list_all f xs) (h x)

pub and_true : (b : Bool) → (b && true) ≡ b
and_true true = refl
and_true false = refl

module _ {X : Type 0} (f : X → Bool) where
  -- 0 if the test holds
  abbrev misses : X → ℕ
  misses x = cond (f x) 0 1

  misses_none : (x : X) → nat_eq (misses x) 0 ≡ f x
  misses_none x = at (f x) where
    at : (b : Bool) → nat_eq (cond b 0 1) 0 ≡ b
    at true = refl
    at false = refl

  -- the order does not matter
  pub all-IsPermutation : (xs ys : List X) → IsPermutation xs ys → list_all f xs ≡ list_all f ys
  all-IsPermutation xs ys h =
      sym (all_same (λ x. nat_eq (misses x) 0) f xs misses_none) ∙ sym (sum_by-zero misses xs)
      ∙ ap (λ n. nat_eq n 0) (sym (sum_by-IsPermutation misses xs ys h))
      ∙ sum_by-zero misses ys ∙ all_same (λ x. nat_eq (misses x) 0) f ys misses_none
