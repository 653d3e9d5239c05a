-- The lowest of the numbers that were seen.
use Rattle.std.proofs.Common.{◌≡◌, ◌≢◌, ℕ, zero, suc, ◌+◌, ◌<◌, ◌≤◌, ◌⊎◌, List, [], ◌∷◌, ◌++◌, length, get_or, take, refl, sym, ap, subst, ◌∙◌, arith, inl, inr}
use Rattle.std.specs.List.{All, Contains}
use Rattle.std.proofs.lemmas.List.{append-nil, length-append, length-take, take-append-le}
use Rattle.std.proofs.Math.Seq.{take-length}
use Rattle.std.proofs.lemmas.List.Elements.{All-nil, All-cons, All-append, All-head, All-tail, All-weaker, All-contains, All-take, Contains-append_left, Contains-append_right, Contains-append_cases, Contains-push, Contains-push_cases}
use Rattle.dimacs.proofs.Members.{Contains-head, Contains-cons, Contains-cons_cases, Contains-nil}
use Rattle.cube_split.specs.inner.Ranks.{AreApart, AreLowest, AreRising, IsKept}

pub all_front : {X : Type 0} (P : X → Type 0) (xs ys : List X) → All P (xs ++ ys) → All P xs
all_front P [] ys h = All-nil P
all_front P (x ∷ xs) ys h = All-cons P x xs (All-head P x (xs ++ ys) h) (all_front P xs ys (All-tail P x (xs ++ ys) h))

pub all_back : {X : Type 0} (P : X → Type 0) (xs ys : List X) → All P (xs ++ ys) → All P ys
all_back P [] ys h = h
all_back P (x ∷ xs) ys h = all_back P xs ys (All-tail P x (xs ++ ys) h)

all_insert : (P : ℕ → Type 0) (xs ys : List ℕ) (n : ℕ) → All P (xs ++ ys) → P n → All P (xs ++ n ∷ ys)
all_insert P xs ys n h here = All-append P xs (n ∷ ys) (all_front P xs ys h) (All-cons P n ys here (all_back P xs ys h))

-- ---- numbers that rise
rising_insert : (xs ys : List ℕ) (n : ℕ) → AreRising (xs ++ ys) → All (λ x. x < n) xs → All (λ y. n < y) ys → AreRising (xs ++ n ∷ ys)
rising_insert [] ys n h below above = (above, h)
rising_insert (x ∷ xs) ys n h below above =
    (all_insert (λ y. x < y) xs ys n h.0 (All-head (λ x. x < n) x xs below), rising_insert xs ys n h.1 (All-tail (λ x. x < n) x xs below) above)

rising_take : (n : ℕ) (xs : List ℕ) → AreRising xs → AreRising (take n xs)
rising_take zero xs h = tt
rising_take (suc n) [] h = tt
rising_take (suc n) (x ∷ xs) h = (All-take (λ y. x < y) n xs h.0, rising_take n xs h.1)

pub rising_behind : (xs : List ℕ) (n : ℕ) (ys : List ℕ) → AreRising (xs ++ n ∷ ys) → All (λ x. x < n) xs × All (λ y. n < y) ys
rising_behind [] n ys h = (All-nil (λ x. x < n), h.0)
rising_behind (x ∷ xs) n ys h =
    let rest = rising_behind xs n ys h.1 in
    (All-cons (λ x. x < n) x xs (All-head (λ y. x < y) n ys (all_back (λ y. x < y) xs (n ∷ ys) h.0)) rest.0, rest.1)

-- of rising numbers those up to a place are not above the last of them
pub rising_front : (xs : List ℕ) (p : ℕ) (n y : ℕ) → AreRising xs → p < length xs → y ≡ get_or xs p y → y ≤ n → All (λ x. x ≤ n) (take (p + 1) xs)
rising_front xs p n y h below is le = subst (λ (k : ℕ). All (λ x. x ≤ n) (take k xs)) (let e : suc p ≡ p + 1 = omega arith in e) (up_to xs p n y h below is le)
  where
    up_to : (xs : List ℕ) (p n y : ℕ) → AreRising xs → p < length xs → y ≡ get_or xs p y → y ≤ n → All (λ x. x ≤ n) (take (suc p) xs)
    up_to [] p n y h below is le = absurd (omega arith)
    up_to (x ∷ xs) zero n y h below is le = All-cons (λ x. x ≤ n) x [] (subst (λ (z : ℕ). z ≤ n) is le) (All-nil (λ x. x ≤ n))
    up_to (x ∷ xs) (suc p) n y h below is le =
        let inside : p < length xs = omega arith in
        let first : x < get_or xs p y = h.0 p y inside in
        let here : y ≡ get_or xs p y = is in
        All-cons (λ x. x ≤ n) x (take (suc p) xs) (omega arith) (up_to xs p n y h.1 inside is le)

-- what is not among the first of rising numbers is not below them
kept_or_above : (n : ℕ) (xs : List ℕ) (x : ℕ) → AreRising xs → Contains xs x → Contains (take n xs) x ⊎ ((length (take n xs) ≡ n) × All (λ y. y ≤ x) (take n xs))
kept_or_above zero xs x h there = inr (refl, All-nil (λ y. y ≤ x))
kept_or_above (suc n) [] x h there = absurd (Contains-nil x there)
kept_or_above (suc n) (y ∷ xs) x h there = elim (Contains-cons_cases y x xs there) [
  | inl e ↦ inl (subst (λ (z : ℕ). Contains (y ∷ take n xs) z) e (Contains-head y (take n xs)))
  | inr later ↦ elim (kept_or_above n xs x h.1 later) [
    | inl kept ↦ inl (Contains-cons y x (take n xs) kept)
    | inr over ↦ let above = All-contains (λ z. y < z) xs x h.0 later in inr (let e = over.0 in omega arith, All-cons (λ z. z ≤ x) y (take n xs) (omega arith) over.1)
  ]
]

strict : (front : List ℕ) (n : ℕ) → All (λ x. x ≤ n) front → ¬ (Contains front n) → All (λ x. x < n) front
strict [] n h new = All-nil (λ x. x < n)
strict (x ∷ front) n h new =
    let le = All-head (λ x. x ≤ n) x front h in
    let ne : x ≢ n = λ e. new (subst (λ (z : ℕ). Contains (x ∷ front) z) e (Contains-head x front)) in
    All-cons (λ x. x < n) x front (omega arith) (strict front n (All-tail (λ x. x ≤ n) x front h) (λ inside. new (Contains-cons x n front inside)))

-- what was seen and is not kept is not below what is kept, when one more is seen
still_over : (limit : ℕ) (front back : List ℕ) (n x : ℕ) → length (front ++ back) ≡ limit → All (λ y. y ≤ x) (front ++ back) → All (λ y. n < y) back
    → (length (take limit (front ++ n ∷ back)) ≡ limit) × All (λ y. y ≤ x) (take limit (front ++ n ∷ back))
still_over limit front [] n x full over above =
    let long : length front ≡ limit = ap (λ (xs : List ℕ). length xs) (sym (append-nil front)) ∙ full in
    let same_list : take limit (front ++ n ∷ []) ≡ front = take-append-le limit front (n ∷ []) (omega arith) ∙ ap (λ (k : ℕ). take k front) (sym long) ∙ take-length front in
    (ap (λ (xs : List ℕ). length xs) same_list ∙ long, subst (All (λ y. y ≤ x)) (sym same_list) (all_front (λ y. y ≤ x) front [] over))
still_over limit front (b ∷ back) n x full over above =
    let here : b ≤ x = All-head (λ y. y ≤ x) b back (all_back (λ y. y ≤ x) front (b ∷ back) over) in
    let low : n < b = All-head (λ y. n < y) b back above in
    let a = length-append front (b ∷ back) in
    let c = length-append front (n ∷ b ∷ back) in
    let d = length-take limit (front ++ n ∷ b ∷ back) in
    (omega arith, All-take (λ y. y ≤ x) limit (front ++ n ∷ b ∷ back) (all_insert (λ y. y ≤ x) front (b ∷ back) n over (omega arith)))

pub lowest_more : (limit : ℕ) (seen : List ℕ) (n : ℕ) (old new : List ℕ) → IsKept limit n old new → AreLowest limit seen old → ¬ (Contains seen n) → AreLowest limit (seen ++ n ∷ []) new
lowest_more limit seen n old new k h fresh =
    let front : List ℕ = k.front in
    let back : List ℕ = k.back in
    let whole : List ℕ = front ++ n ∷ back in
    let rises : AreRising (front ++ back) = subst AreRising k.splits h.rising in
    let were : All (Contains seen) (front ++ back) = subst (All (Contains seen)) k.splits h.seen_all in
    let new_there : ¬ (Contains front n) = λ inside. fresh (All-contains (Contains seen) front n (all_front (Contains seen) front back were) inside) in
    let up : AreRising whole = rising_insert front back n rises (strict front n k.below new_there) k.above in
    let length_is = length-take limit whole in
    subst (AreLowest limit (seen ++ n ∷ [])) (sym k.kept) (record {
      rising = rising_take limit whole up;
      few = omega arith;
      seen_all = All-take (Contains (seen ++ n ∷ [])) limit whole
          (all_insert (Contains (seen ++ n ∷ [])) front back n (All-weaker (Contains seen) (Contains (seen ++ n ∷ [])) (λ x inside. Contains-append_left seen (n ∷ []) x inside) (front ++ back) were) (Contains-push seen n));
      rest = λ x met. elim (Contains-push_cases seen n x met) [
        | inl before ↦ elim (h.rest x before) [
          | inl kept ↦ kept_or_above limit whole x up (wider front back n x (subst (λ (xs : List ℕ). Contains xs x) k.splits kept))
          | inr over ↦ inr (still_over limit front back n x (ap (λ (xs : List ℕ). length xs) (sym k.splits) ∙ over.0) (subst (All (λ y. y ≤ x)) k.splits over.1) k.above)
        ]
        | inr here ↦ kept_or_above limit whole x up (subst (λ (z : ℕ). Contains whole z) here (Contains-append_right front (n ∷ back) n (Contains-head n back)))
      ];
    })
  where
    wider : (front back : List ℕ) (n x : ℕ) → Contains (front ++ back) x → Contains (front ++ n ∷ back) x
    wider front back n x inside = elim (Contains-append_cases front back x inside) [
      | inl left ↦ Contains-append_left front (n ∷ back) x left
      | inr right ↦ Contains-append_right front (n ∷ back) x (Contains-cons n x back right)
    ]

pub lowest_none : (limit : ℕ) → AreLowest limit [] []
lowest_none limit = record {
  rising = tt;
  few = omega arith;
  seen_all = All-nil (Contains []);
  rest = λ x met. absurd (Contains-nil x met);
}

-- a number that stands once in a list stands not before
pub apart_before : (seen : List ℕ) (n : ℕ) (rest : List ℕ) → AreApart (seen ++ n ∷ rest) → ¬ (Contains seen n)
apart_before [] n rest h inside = Contains-nil n inside
apart_before (x ∷ seen) n rest h inside = elim (Contains-cons_cases x n seen inside) [
  | inl e ↦ h.0 (subst (λ (z : ℕ). Contains (seen ++ n ∷ rest) z) (sym e) (Contains-append_right seen (n ∷ rest) n (Contains-head n rest)))
  | inr later ↦ apart_before seen n rest h.1 later
]
