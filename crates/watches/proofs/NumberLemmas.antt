-- Clause numbers that are given out in ascending order.
use Rattle.std.proofs.Common.{ℕ, ◌+◌, ◌<◌, inl, inr, List, [], ◌∷◌, ◌++◌, sym, subst, arith}
use Rattle.std.specs.List.{All, Contains}
use Rattle.std.proofs.lemmas.Bool.{cases_eq}
use Rattle.std.proofs.lemmas.List.Elements.{All-push, All-weaker, Contains-append_left, Contains-append_right}
use Rattle.dimacs.proofs.Members.{Contains-head}

pub all_next : (xs : List ℕ) (n : ℕ) → All (λ k. k < n) xs → All (λ k. k < n + 1) (xs ++ n ∷ [])
all_next xs n a = All-push (λ k. k < n + 1) xs n (All-weaker (λ k. k < n) (λ k. k < n + 1) (λ k h. omega arith) xs a) (omega arith)

pub there_next : (xs : List ℕ) (n : ℕ) → ((k : ℕ) → 0 < k → k < n → Contains xs k) → (k : ℕ) → 0 < k → k < n + 1 → Contains (xs ++ n ∷ []) k
there_next xs n h k above below = elim (cases_eq k n) [
  | inl e ↦ Contains-append_right xs (n ∷ []) k (subst (Contains (n ∷ [])) (sym e) (Contains-head n []))
  | inr d ↦ Contains-append_left xs (n ∷ []) k (h k above (omega arith))
]
