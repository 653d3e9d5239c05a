-- Lists in blocks of one length.
use Rattle.std.proofs.Common.{◌≡◌, ℕ, zero, suc, ◌+◌, ◌*◌, ◌/◌, ◌%◌, ◌<◌, ◌≤◌, List, [], ◌∷◌, ◌++◌, length, get_or, set, take, drop, All, refl, sym, ap, ◌∙◌, arith, length-append}
use Rattle.std.specs.List.{flat_map}
use Rattle.std.proofs.lemmas.List.{drop-drop, drop_more, drop-append-le}
use Rattle.std.proofs.Math.Seq.{take-append-add, drop-append-add, take-append_seam}
use Rattle.std.proofs.lemmas.List.Elements.{All-head, All-tail, All-get_or}

abbrev pub AreBlocks : {X : Type 0} → (X → List ℕ) → List X → Type 0
AreBlocks f xs = All (λ x. length (f x) ≡ 2048) xs

pub blocks_len : {X : Type 0} (f : X → List ℕ) (xs : List X) → AreBlocks f xs → length (flat_map f xs) ≡ 2048 * length xs
blocks_len f [] h = refl
blocks_len f (x ∷ xs) h = length-append (f x) (flat_map f xs) ∙ omega (arith, All-head (λ x. length (f x) ≡ 2048) x xs h, blocks_len f xs (All-tail (λ x. length (f x) ≡ 2048) x xs h))

drop_none : (n : ℕ) → drop {A = ℕ} n [] ≡ []
drop_none zero = refl
drop_none (suc n) = refl

take_none : (n : ℕ) → take {A = ℕ} n [] ≡ []
take_none zero = refl
take_none (suc n) = refl

-- after some blocks come the others
pub behind_blocks : {X : Type 0} (f : X → List ℕ) (xs : List X) (k : ℕ) → AreBlocks f xs → drop (2048 * k) (flat_map f xs) ≡ flat_map f (drop k xs)
behind_blocks f xs zero h = refl
behind_blocks f [] (suc k) h = drop_none (2048 * suc k)
behind_blocks f (x ∷ xs) (suc k) h =
    let split : 2048 * suc k ≡ length (f x) + 2048 * k = omega (arith, All-head (λ x. length (f x) ≡ 2048) x xs h) in
    ap (λ (n : ℕ). drop n (f x ++ flat_map f xs)) split
    ∙ drop-append-add (f x) (flat_map f xs) (2048 * k)
    ∙ behind_blocks f xs k (All-tail (λ x. length (f x) ≡ 2048) x xs h)

pub first_blocks : {X : Type 0} (f : X → List ℕ) (xs : List X) (k : ℕ) → AreBlocks f xs → take (2048 * k) (flat_map f xs) ≡ flat_map f (take k xs)
first_blocks f xs zero h = refl
first_blocks f [] (suc k) h = take_none (2048 * suc k)
first_blocks f (x ∷ xs) (suc k) h =
    let split : 2048 * suc k ≡ length (f x) + 2048 * k = omega (arith, All-head (λ x. length (f x) ≡ 2048) x xs h) in
    ap (λ (n : ℕ). take n (f x ++ flat_map f xs)) split
    ∙ take-append-add (f x) (flat_map f xs) (2048 * k)
    ∙ ap (λ (t : List ℕ). f x ++ t) (first_blocks f xs k (All-tail (λ x. length (f x) ≡ 2048) x xs h))

-- another block of the same bytes
pub block_set : {X : Type 0} (f : X → List ℕ) (xs : List X) (i : ℕ) (y d : X) → i < length xs → f y ≡ f (get_or xs i d) → flat_map f (set xs i y) ≡ flat_map f xs
block_set f [] i y d lt e = absurd (omega (arith, lt))
block_set f (x ∷ xs) zero y d lt e = ap (λ (t : List ℕ). t ++ flat_map f xs) e
block_set f (x ∷ xs) (suc i) y d lt e = ap (λ (t : List ℕ). f x ++ t) (block_set f xs i y d (omega (arith, lt)) e)

pub block_at : {X : Type 0} (f : X → List ℕ) (xs : List X) (k : ℕ) (d : X) → AreBlocks f xs → k < length xs → length (f (get_or xs k d)) ≡ 2048
block_at f xs k d h lt = All-get_or (λ x. length (f x) ≡ 2048) xs k d lt h

-- a place within the bytes stands in a block
pub inside_blocks : {X : Type 0} (f : X → List ℕ) (xs : List X) (from : ℕ) → AreBlocks f xs → from < length (flat_map f xs) → from / 2048 < length xs
inside_blocks f xs from h lt = omega (arith, lt, blocks_len f xs h)

pub inside_block : {X : Type 0} (f : X → List ℕ) (xs : List X) (from : ℕ) (d : X) → AreBlocks f xs → from < length (flat_map f xs) → from % 2048 < length (f (get_or xs (from / 2048) d))
inside_block f xs from d h lt = omega (arith, block_at f xs (from / 2048) d h (inside_blocks f xs from h lt))

-- a block from a place on is a front of all bytes from there on
pub block_front : {X : Type 0} (f : X → List ℕ) (xs : List X) (from : ℕ) (d : X) (part : List ℕ) → AreBlocks f xs → from < length (flat_map f xs)
    → part ≡ drop (from % 2048) (f (get_or xs (from / 2048) d)) → part ≡ take (length part) (drop from (flat_map f xs))
block_front {X} f xs from d part h lt is =
    let k = from / 2048 in
    let j = from % 2048 in
    let b = f (get_or xs k d) in
    let rest = flat_map f (drop (k + 1) xs) in
    let split : 2048 * k + j ≡ from = omega arith in
    let inside : j ≤ length b = omega (arith, inside_block f xs from d h lt) in
    let all : drop from (flat_map f xs) ≡ drop j b ++ rest =
    sym (ap (λ (n : ℕ). drop n (flat_map f xs)) split)
    ∙ sym (drop-drop j (2048 * k) (flat_map f xs))
    ∙ ap (drop j) (behind_blocks f xs k h)
    ∙ ap (λ (ys : List X). drop j (flat_map f ys)) (drop_more xs k d (inside_blocks f xs from h lt))
    ∙ drop-append-le j b rest inside in
    sym (ap (take (length part)) (all ∙ ap (λ (t : List ℕ). t ++ rest) (sym is)) ∙ take-append_seam part rest)
