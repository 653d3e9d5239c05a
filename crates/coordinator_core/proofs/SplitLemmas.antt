-- The places of leaves after a split.
use Rattle.std.proofs.Common.{◌≡◌, ◌≢◌, ℕ, zero, suc, ◌+◌, ◌<◌, ◌≤◌, Bool, List, [], ◌∷◌, ◌++◌, length, map, take, drop, Option, Some, None, slice_get, slice_set, get_or, refl, sym, ap, ◌∙◌, ◌⊎◌, inl, inr, arith, add-one}
use Rattle.std.specs.Prelude.{if◌then◌else◌}
use Rattle.std.specs.List.{All, insert}
use Rattle.std.proofs.lemmas.Bool.{cases_lt, lt-ltb, le-ltb}
use Rattle.std.proofs.lemmas.List.{set-set}
use Rattle.std.proofs.lemmas.List.Elements.{All-cons, All-head, All-tail}
use Rattle.dimacs.specs.logic.Literal.{Pos, Neg}
use Rattle.icnf.specs.Leaves.{Cube, branched}
use Rattle.coordinator_core.specs.Splits.{shifted, doubled, shifted_job}
use Rattle.coordinator_core.specs.declared.job_state.Job.{Job}
use Rattle.coordinator_core.proofs.Places.{any_default}

-- the same place by recursion
abbrev moved : ℕ → ℕ → ℕ
moved zero zero = zero
moved zero (suc k) = suc (suc k)
moved (suc i) zero = zero
moved (suc i) (suc k) = suc (moved i k)

moved_behind : (i k : ℕ) → i < k → moved i k ≡ suc k
moved_behind zero zero lt = absurd (omega (arith, lt))
moved_behind zero (suc k) lt = refl
moved_behind (suc i) zero lt = absurd (omega (arith, lt))
moved_behind (suc i) (suc k) lt = ap suc (moved_behind i k (omega (arith, lt)))

moved_before : (i k : ℕ) → k ≤ i → moved i k ≡ k
moved_before zero zero le = refl
moved_before zero (suc k) le = absurd (omega (arith, le))
moved_before (suc i) zero le = refl
moved_before (suc i) (suc k) le = ap suc (moved_before i k (omega (arith, le)))

pub shifted_is : (i k : ℕ) → shifted i k ≡ moved i k
shifted_is i k = go (cases_lt i k)
  where
    go : (i < k) ⊎ (k ≤ i) → shifted i k ≡ moved i k
    go (inl lt) = ap (λ (b : Bool). if b then k + 1 else k) (lt-ltb i k lt) ∙ add-one k ∙ sym (moved_behind i k lt)
    go (inr le) = ap (λ (b : Bool). if b then k + 1 else k) (le-ltb i k le) ∙ sym (moved_before i k le)

moved_at : {X : Type 0} (xs : List X) (i k : ℕ) (y : X) → k ≢ i → slice_get (doubled i y xs) (moved i k) ≡ slice_get xs k
moved_at [] i k y other = refl
moved_at (x ∷ xs) zero zero y other = absurd (other refl)
moved_at (x ∷ xs) zero (suc k) y other = refl
moved_at (x ∷ xs) (suc i) zero y other = refl
moved_at (x ∷ xs) (suc i) (suc k) y other = moved_at xs i k y (λ e. other (ap suc e))

pub doubled_at : {X : Type 0} (xs : List X) (i k : ℕ) (y : X) → k ≢ i → slice_get (doubled i y xs) (shifted i k) ≡ slice_get xs k
doubled_at xs i k y other = ap (slice_get (doubled i y xs)) (shifted_is i k) ∙ moved_at xs i k y other

moved_read : {X : Type 0} (xs : List X) (i k : ℕ) (y d : X) → k ≢ i → get_or (doubled i y xs) (moved i k) d ≡ get_or xs k d
moved_read [] i k y d other = refl
moved_read (x ∷ xs) zero zero y d other = absurd (other refl)
moved_read (x ∷ xs) zero (suc k) y d other = refl
moved_read (x ∷ xs) (suc i) zero y d other = refl
moved_read (x ∷ xs) (suc i) (suc k) y d other = moved_read xs i k y d (λ e. other (ap suc e))

pub doubled_read : {X : Type 0} (xs : List X) (i k : ℕ) (y d : X) → k ≢ i → get_or (doubled i y xs) (shifted i k) d ≡ get_or xs k d
doubled_read xs i k y d other = ap (λ (p : ℕ). get_or (doubled i y xs) p d) (shifted_is i k) ∙ moved_read xs i k y d other

moved_cube : (xs : List Cube) (i k v : ℕ) → k ≢ i → get_or (branched i v xs) (moved i k) [] ≡ get_or xs k []
moved_cube [] i k v other = refl
moved_cube (x ∷ xs) zero zero v other = absurd (other refl)
moved_cube (x ∷ xs) zero (suc k) v other = refl
moved_cube (x ∷ xs) (suc i) zero v other = refl
moved_cube (x ∷ xs) (suc i) (suc k) v other = moved_cube xs i k v (λ e. other (ap suc e))

pub branched_read : (xs : List Cube) (i k v : ℕ) → k ≢ i → get_or (branched i v xs) (shifted i k) [] ≡ get_or xs k []
branched_read xs i k v other = ap (λ (p : ℕ). get_or (branched i v xs) p []) (shifted_is i k) ∙ moved_cube xs i k v other

pub doubled_same : {X : Type 0} (xs : List X) (i : ℕ) (y : X) → i < length xs → (slice_get (doubled i y xs) i ≡ Some y) × (slice_get (doubled i y xs) (suc i) ≡ Some y)
doubled_same [] i y lt = absurd (omega (arith, lt))
doubled_same (x ∷ xs) zero y lt = (refl, refl)
doubled_same (x ∷ xs) (suc i) y lt = doubled_same xs i y (omega (arith, lt))

-- the old entry at the doubled place does not matter
pub doubled_set : {X : Type 0} (xs : List X) (i : ℕ) (x y : X) → doubled i x (slice_set xs i y) ≡ doubled i x xs
doubled_set [] i x y = refl
doubled_set (a ∷ xs) zero x y = refl
doubled_set (a ∷ xs) (suc i) x y = ap (λ zs. a ∷ zs) (doubled_set xs i x y)

pub doubled_length : {X : Type 0} (xs : List X) (i : ℕ) (y : X) → i < length xs → length (doubled i y xs) ≡ suc (length xs)
doubled_length [] i y lt = absurd (omega (arith, lt))
doubled_length (x ∷ xs) zero y lt = refl
doubled_length (x ∷ xs) (suc i) y lt = ap suc (doubled_length xs i y (omega (arith, lt)))

pub branched_length : (xs : List Cube) (i v : ℕ) → i < length xs → length (branched i v xs) ≡ suc (length xs)
branched_length [] i v lt = absurd (omega (arith, lt))
branched_length (x ∷ xs) zero v lt = refl
branched_length (x ∷ xs) (suc i) v lt = ap suc (branched_length xs i v (omega (arith, lt)))

-- entries before the doubled place are unchanged
pub doubled_before : {X : Type 0} (xs : List X) (i k : ℕ) (y d : X) → k < i → get_or (doubled i y xs) k d ≡ get_or xs k d
doubled_before [] i k y d lt = refl
doubled_before (x ∷ xs) zero k y d lt = absurd (omega (arith, lt))
doubled_before (x ∷ xs) (suc i) zero y d lt = refl
doubled_before (x ∷ xs) (suc i) (suc k) y d lt = doubled_before xs i k y d (omega (arith, lt))

-- each place is that of one of the two branches, or of another leaf
abbrev pub IsUnshifted : ℕ → ℕ → Type 0
IsUnshifted i p = (p ≡ i) ⊎ ((p ≡ suc i) ⊎ ((k : ℕ) × (k ≢ i) × (p ≡ shifted i k)))

unmoved : (i p : ℕ) → (p ≡ i) ⊎ ((p ≡ suc i) ⊎ ((k : ℕ) × (k ≢ i) × (p ≡ moved i k)))
unmoved zero zero = inl refl
unmoved zero (suc zero) = inr (inl refl)
unmoved zero (suc (suc k)) = inr (inr (suc k, (λ e. omega (arith, e)), refl))
unmoved (suc i) zero = inr (inr (zero, (λ e. omega (arith, e)), refl))
unmoved (suc i) (suc p) = next (unmoved i p)
  where
    next : (p ≡ i) ⊎ ((p ≡ suc i) ⊎ ((k : ℕ) × (k ≢ i) × (p ≡ moved i k))) → (suc p ≡ suc i) ⊎ ((suc p ≡ suc (suc i)) ⊎ ((k : ℕ) × (k ≢ suc i) × (suc p ≡ moved (suc i) k)))
    next (inl e) = inl (ap suc e)
    next (inr (inl e)) = inr (inl (ap suc e))
    next (inr (inr h)) = inr (inr (suc h.0, (λ e. h.1 (omega (arith, e))), ap suc h.2))

pub unshifted : (i p : ℕ) → IsUnshifted i p
unshifted i p = go (unmoved i p)
  where
    go : (p ≡ i) ⊎ ((p ≡ suc i) ⊎ ((k : ℕ) × (k ≢ i) × (p ≡ moved i k))) → IsUnshifted i p
    go (inl e) = inl e
    go (inr (inl e)) = inr (inl e)
    go (inr (inr h)) = inr (inr (h.0, h.1, h.2 ∙ sym (shifted_is i h.0)))

pub shift_at : (xs : List (Option Job)) (i k : ℕ) → get_or (map (shifted_job i) xs) k None ≡ shifted_job i (get_or xs k None)
shift_at [] i k = refl
shift_at (x ∷ xs) i zero = refl
shift_at (x ∷ xs) i (suc k) = shift_at xs i k

-- a job that is read after a shift is one from before, with its leaf's new place
pub job_before : (i : ℕ) (o : Option Job) (k : Job) → shifted_job i o ≡ Some k → (j : Job) × (o ≡ Some j) × (record j { leaf = shifted i j.leaf } ≡ k)
job_before i None k e = absurd (never e)
  where
    never : None ≡ Some k → ⊥
    never h = cc
job_before i (Some j) k e = (j, refl, same (record j { leaf = shifted i j.leaf }) k e)
  where
    same : (a b : Job) → Some a ≡ Some b → a ≡ b
    same a b h = cc

-- what holds of all cubes and of both branches
pub all_branched : (P : Cube → Type 0) (xs : List Cube) (i v : ℕ) → P (get_or xs i [] ++ Pos v ∷ []) → P (get_or xs i [] ++ Neg v ∷ []) → All P xs → All P (branched i v xs)
all_branched P [] i v pos neg all = all
all_branched P (x ∷ xs) zero v pos neg all = All-cons P (x ++ Pos v ∷ []) ((x ++ Neg v ∷ []) ∷ xs) pos (All-cons P (x ++ Neg v ∷ []) xs neg (All-tail P x xs all))
all_branched P (x ∷ xs) (suc i) v pos neg all = All-cons P x (branched i v xs) (All-head P x xs all) (all_branched P xs i v pos neg (All-tail P x xs all))

-- how the code doubles an entry
pub inserted : {X : Type 0} (xs : List X) (i : ℕ) (x : X) → i < length xs → insert (slice_set xs i x) i x ≡ doubled i x xs
inserted [] i x lt = absurd (omega (arith, lt))
inserted (a ∷ xs) zero x lt = refl
inserted (a ∷ xs) (suc i) x lt = ap (λ zs. a ∷ zs) (inserted xs i x (omega (arith, lt)))

pub inserted_map : {X Y : Type 0} (f : X → Y) (xs : List X) (i : ℕ) (a b : X) (y : Y) → i < length xs → f a ≡ y → f b ≡ y → map f (insert (slice_set xs i a) i b) ≡ doubled i y (map f xs)
inserted_map f [] i a b y lt p q = absurd (omega (arith, lt))
inserted_map f (x ∷ xs) zero a b y lt p q = rw (p, q) refl
inserted_map {X} {Y} f (x ∷ xs) (suc i) a b y lt p q = ap (λ (zs : List Y). f x ∷ zs) (inserted_map f xs i a b y (omega (arith, lt)) p q)

-- a list of which a prefix was changed, entry by entry
abbrev pub walked : {X : Type 0} → (X → X) → List X → ℕ → List X
walked f xs i = map f (take i xs) ++ drop i xs

pub walked_none : {X : Type 0} (f : X → X) (xs : List X) → walked f xs 0 ≡ xs
walked_none f [] = refl
walked_none f (x ∷ xs) = refl

pub walked_at : {X : Type 0} (f : X → X) (xs : List X) (i : ℕ) (d : X) → i < length xs → get_or (walked f xs i) i d ≡ get_or xs i d
walked_at f [] i d lt = absurd (omega (arith, lt))
walked_at f (x ∷ xs) zero d lt = refl
walked_at f (x ∷ xs) (suc i) d lt = walked_at f xs i d (omega (arith, lt))

walked_suc : {X : Type 0} (f : X → X) (xs : List X) (i : ℕ) (d y : X) → i < length xs → y ≡ f (get_or xs i d) → slice_set (walked f xs i) i y ≡ walked f xs (suc i)
walked_suc f [] i d y lt e = absurd (omega (arith, lt))
walked_suc f (x ∷ xs) zero d y lt e = ap (λ z. z ∷ xs) e
walked_suc f (x ∷ xs) (suc i) d y lt e = ap (λ zs. f x ∷ zs) (walked_suc f xs i d y (omega (arith, lt)) e)

pub walked_more : {X : Type 0} (f : X → X) (xs : List X) (i : ℕ) (d y : X) → i < length xs → y ≡ f (get_or xs i d) → slice_set (walked f xs i) i y ≡ walked f xs (i + 1)
walked_more f xs i d y lt e = walked_suc f xs i d y lt e ∙ ap (walked f xs) (sym (add-one i))

-- the next entry is unchanged so far
pub walked_read : {X : Type 0} (f : Option X → Option X) (xs now : List (Option X)) (i : ℕ) (o p : Option X) → i < length xs → now ≡ walked f xs i → p ≡ get_or now i p → o ≡ p → o ≡ get_or xs i None
walked_read f xs now i o p lt e read took =
    took ∙ read ∙ ap (λ zs. get_or zs i p) e ∙ walked_at f xs i p lt ∙ any_default xs i p None lt

-- and is replaced by the changed one
pub walked_next : {X : Type 0} (f : Option X → Option X) (xs now : List (Option X)) (i : ℕ) (o y z : Option X) → i < length xs → now ≡ walked f xs i → o ≡ get_or xs i None → y ≡ f o
    → slice_set (slice_set now i z) i y ≡ walked f xs (i + 1)
walked_next f xs now i o y z lt e read made =
    set-set now i z y ∙ ap (λ zs. slice_set zs i y) e ∙ walked_more f xs i None y lt (made ∙ ap f read)

pub walked_all : {X : Type 0} (f : X → X) (xs : List X) (i : ℕ) → length xs ≤ i → walked f xs i ≡ map f xs
walked_all f [] zero le = refl
walked_all f [] (suc i) le = refl
walked_all f (x ∷ xs) zero le = absurd (omega (arith, le))
walked_all f (x ∷ xs) (suc i) le = ap (λ zs. f x ∷ zs) (walked_all f xs i (omega (arith, le)))
