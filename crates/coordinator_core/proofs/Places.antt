-- The entries of a list after one was written.
use Rattle.std.proofs.Common.{◌≡◌, ◌≢◌, ℕ, zero, suc, ◌<◌, ◌≤◌, List, [], ◌∷◌, length, Option, Some, None, slice_get, slice_set, get_or, refl, sym, ap, ◌∙◌, ◌⊎◌, inl, inr, arith}
use Rattle.std.proofs.lemmas.List.{set-set}

-- an entry that is read after a write was written, or is at another place and unchanged
pub got_set_cases : {X : Type 0} (xs : List X) (k i : ℕ) (y x : X) → slice_get (slice_set xs k y) i ≡ Some x
    → ((i ≡ k) × (i < length xs) × (y ≡ x)) ⊎ ((i ≢ k) × (slice_get xs i ≡ Some x))
got_set_cases {X} [] k i y x h = absurd (nothing h)
  where
    nothing : None ≡ Some x → ⊥
    nothing e = cc
got_set_cases {X} (a ∷ xs) zero zero y x h = inl (refl, omega arith, same y x h)
  where
    same : (p q : X) → Some p ≡ Some q → p ≡ q
    same p q e = cc
got_set_cases (a ∷ xs) zero (suc i) y x h = inr (λ e. omega (arith, e), h)
got_set_cases (a ∷ xs) (suc k) zero y x h = inr (λ e. omega (arith, e), h)
got_set_cases {X} (a ∷ xs) (suc k) (suc i) y x h = next (got_set_cases xs k i y x h)
  where
    next : ((i ≡ k) × (i < length xs) × (y ≡ x)) ⊎ ((i ≢ k) × (slice_get xs i ≡ Some x))
        → ((suc i ≡ suc k) × (suc i < suc (length xs)) × (y ≡ x)) ⊎ ((suc i ≢ suc k) × (slice_get xs i ≡ Some x))
    next (inl p) = let at : i ≡ k = p.0 in let lt : i < length xs = p.1 in inl (ap suc at, omega (arith, lt), p.2)
    next (inr p) = inr (λ e. p.0 (omega (arith, e)), p.1)

-- an entry at another place is unchanged
pub got_set_other : {X : Type 0} (xs : List X) (k i : ℕ) (y x : X) → i ≢ k → slice_get xs i ≡ Some x → slice_get (slice_set xs k y) i ≡ Some x
got_set_other [] k i y x n h = h
got_set_other (a ∷ xs) zero zero y x n h = absurd (n refl)
got_set_other (a ∷ xs) zero (suc i) y x n h = h
got_set_other (a ∷ xs) (suc k) zero y x n h = h
got_set_other (a ∷ xs) (suc k) (suc i) y x n h = got_set_other xs k i y x (λ e. n (ap suc e)) h

-- an entry that was written is read
pub got_set_same : {X : Type 0} (xs : List X) (k : ℕ) (y : X) → k < length xs → slice_get (slice_set xs k y) k ≡ Some y
got_set_same [] k y h = absurd (omega (arith, h))
got_set_same (a ∷ xs) zero y h = refl
got_set_same (a ∷ xs) (suc k) y h = got_set_same xs k y (omega (arith, h))

-- the same for a read with a default
pub read_set_cases : {X : Type 0} (xs : List X) (k i : ℕ) (y d x : X) → get_or (slice_set xs k y) i d ≡ x
    → ((i ≡ k) × (y ≡ x)) ⊎ (((i ≢ k) ⊎ (length xs ≤ k)) × (get_or xs i d ≡ x))
read_set_cases [] k i y d x h = inr (inr (omega arith), h)
read_set_cases (a ∷ xs) zero zero y d x h = inl (refl, h)
read_set_cases (a ∷ xs) zero (suc i) y d x h = inr (inl (λ e. omega (arith, e)), h)
read_set_cases (a ∷ xs) (suc k) zero y d x h = inr (inl (λ e. omega (arith, e)), h)
read_set_cases {X} (a ∷ xs) (suc k) (suc i) y d x h = next (read_set_cases xs k i y d x h)
  where
    other : (i ≢ k) ⊎ (length xs ≤ k) → (suc i ≢ suc k) ⊎ (suc (length xs) ≤ suc k)
    other (inl n) = inl (λ e. n (omega (arith, e)))
    other (inr le) = inr (omega (arith, le))

    next : ((i ≡ k) × (y ≡ x)) ⊎ (((i ≢ k) ⊎ (length xs ≤ k)) × (get_or xs i d ≡ x))
        → ((suc i ≡ suc k) × (y ≡ x)) ⊎ (((suc i ≢ suc k) ⊎ (suc (length xs) ≤ suc k)) × (get_or xs i d ≡ x))
    next (inl p) = inl (ap suc p.0, p.1)
    next (inr p) = inr (other p.0, p.1)

-- if the entry that is read is not the default, its place is within the list
pub read_within : {X : Type 0} (xs : List (Option X)) (i : ℕ) (x : X) → get_or xs i None ≡ Some x → i < length xs
read_within {X} [] i x h = absurd (nothing h)
  where
    nothing : None ≡ Some x → ⊥
    nothing e = cc
read_within (a ∷ xs) zero x h = omega arith
read_within (a ∷ xs) (suc i) x h = let lt : i < length xs = read_within xs i x h in omega (arith, lt)

pub got_within : {X : Type 0} (xs : List X) (i : ℕ) (x : X) → slice_get xs i ≡ Some x → i < length xs
got_within {X} [] i x h = absurd (nothing h)
  where
    nothing : None ≡ Some x → ⊥
    nothing e = cc
got_within (a ∷ xs) zero x h = omega arith
got_within (a ∷ xs) (suc i) x h = let lt : i < length xs = got_within xs i x h in omega (arith, lt)

-- an entry is written to its own place
pub set_read : {X : Type 0} (xs : List X) (i : ℕ) (d : X) → slice_set xs i (get_or xs i d) ≡ xs
set_read [] i d = refl
set_read (a ∷ xs) zero d = refl
set_read (a ∷ xs) (suc i) d = ap (λ ys. a ∷ ys) (set_read xs i d)

-- something else was written in between
pub set_back : {X : Type 0} (xs : List X) (i : ℕ) (y z d : X) → get_or xs i d ≡ z → slice_set (slice_set xs i y) i z ≡ xs
set_back xs i y z d here = set-set xs i y z ∙ ap (slice_set xs i) (sym here) ∙ set_read xs i d

-- an entry within the list is the same for each default
pub any_default : {X : Type 0} (xs : List X) (i : ℕ) (a b : X) → i < length xs → get_or xs i a ≡ get_or xs i b
any_default [] i a b lt = absurd (omega (arith, lt))
any_default (x ∷ xs) zero a b lt = refl
any_default (x ∷ xs) (suc i) a b lt = any_default xs i a b (omega (arith, lt))
