-- Bit sets of leaves' places.
use Rattle.std.proofs.Common.{◌≡◌, ◌≢◌, ℕ, ◌+◌, ◌-◌, ◌*◌, ◌/◌, ◌%◌, ◌^◌, ◌<◌, ◌≤◌, ◌⊎◌, inl, inr, false, not, nat_eq, nat_lt, List, length, get_or, set, refl, sym, ◌∙◌, ap, subst, arith, w64}
use Rattle.std.specs.Prelude.{bit_and, bit_or}
use Rattle.std.specs.Int.{bit_at, bit_not, trailing_zeros}
use Rattle.std.proofs.lemmas.Bool.{cases_eq, cases_lt}
use Rattle.std.proofs.lemmas.List.{get_or-set_same, get_or-set_other, get_or_past, get_or-replicate, length-replicate}
use Rattle.std.proofs.lemmas.Bool.Decides.{nat_tests}
use Rattle.std.proofs.lemmas.Nat.{le_or_l, le_or_r, shr-shr, shr_le}
use Rattle.std.proofs.lemmas.Nat.Bits.{bit_at_and, bit_at-zero, bit_at_set_same, bit_at_set_other, bit_at_clear_other, bit_at-trailing_zeros, bit_at_above, bit_at_ones}
use Rattle.std.proofs.Math.ListN.{replicate}
use Rattle.log_join.specs.Bits.{Has}

pub has_none : (words : List ℕ) (p : ℕ) → get_or words (p / 64) 0 ≡ 0 → ¬ (Has words p)
unfolding Has
has_none words p e h = let z : bit_at (get_or words (p / 64) 0) (p % 64) ≡ 0 = ap (λ (w : ℕ). bit_at w (p % 64)) e ∙ bit_at-zero (p % 64) in omega arith

-- words that are the same at the place
pub has_same : (a b : List ℕ) (p q : ℕ) → get_or a (p / 64) 0 ≡ get_or b (q / 64) 0 → p % 64 ≡ q % 64 → Has a p → Has b q
unfolding Has
has_same a b p q e f h = sym (ap (λ (w : ℕ). bit_at w (p % 64)) e ∙ ap (λ (i : ℕ). bit_at (get_or b (q / 64) 0) i) f) ∙ h

-- a block that was copied
pub has_copied : (words part : List ℕ) (block : ℕ) → ((j : ℕ) → j < 16 → get_or part j 0 ≡ get_or words (block * 16 + j) 0)
    → (q : ℕ) → q < 1024 → Has words (block * 1024 + q) → Has part q
has_copied words part block each q small h =
    let word : (block * 1024 + q) / 64 ≡ block * 16 + q / 64 = omega arith in
    has_same words part (block * 1024 + q) q (ap (λ (i : ℕ). get_or words i 0) word ∙ sym (each (q / 64) (omega arith))) (omega arith) h

pub has_put : (words part : List ℕ) (block : ℕ) → ((j : ℕ) → j < 16 → get_or words (block * 16 + j) 0 ≡ get_or part j 0)
    → (q : ℕ) → q < 1024 → Has part q → Has words (block * 1024 + q)
has_put words part block each q small h =
    let word : (block * 1024 + q) / 64 ≡ block * 16 + q / 64 = omega arith in
    has_same part words q (block * 1024 + q) (sym (each (q / 64) (omega arith)) ∙ ap (λ (i : ℕ). get_or words i 0) (sym word)) (omega arith) h

pub has_beside : (old new : List ℕ) (block : ℕ) → ((j : ℕ) → j < block * 16 ⊎ block * 16 + 16 ≤ j → get_or new j 0 ≡ get_or old j 0)
    → (p : ℕ) → ¬ (p / 1024 ≡ block) → Has old p → Has new p
has_beside old new block each p other h = has_same old new p p (sym (each (p / 64) (side (cases_lt (p / 64) (block * 16))))) refl h
  where
    side : (p / 64 < block * 16) ⊎ (block * 16 ≤ p / 64) → (p / 64 < block * 16) ⊎ (block * 16 + 16 ≤ p / 64)
    side (inl a) = inl a
    side (inr b) = inr (elim (cases_lt (p / 64) (block * 16 + 16)) [
      | inl c ↦ absurd (other (omega arith))
      | inr d ↦ d
    ])

-- a block of which what is in both was kept
pub has_both : (old words new : List ℕ) (block : ℕ) → ((j : ℕ) → j < 16 → get_or new j 0 ≡ bit_and (get_or old j 0) (get_or words (block * 16 + j) 0))
    → (q : ℕ) → q < 1024 → Has old q → Has words (block * 1024 + q) → Has new q
unfolding Has
has_both old words new block each q small h g =
    let word : (block * 1024 + q) / 64 ≡ block * 16 + q / 64 = omega arith in
    let bit : (block * 1024 + q) % 64 ≡ q % 64 = omega arith in
    let g' : bit_at (get_or words (block * 16 + q / 64) 0) (q % 64) ≡ 1 =
    ap (λ (i : ℕ). bit_at (get_or words (block * 16 + q / 64) 0) i) (sym bit) ∙ ap (λ (i : ℕ). bit_at (get_or words i 0) ((block * 1024 + q) % 64)) (sym word) ∙ g in
    let both = bit_at_and (get_or old (q / 64) 0) (get_or words (block * 16 + q / 64) 0) (q % 64) in
    ap (λ (w : ℕ). bit_at w (q % 64)) (each (q / 64) (omega arith)) ∙ both ∙ (omega arith)

pub or_none : (a b : ℕ) → bit_or a b ≡ 0 → (a ≡ 0) × (b ≡ 0)
or_none a b e = let l = le_or_l a b in let r = le_or_r a b in (omega arith, omega arith)

pub block_none : (part : List ℕ) → ((j : ℕ) → j < 16 → get_or part j 0 ≡ 0) → (q : ℕ) → q < 1024 → ¬ (Has part q)
block_none part each q small = has_none part q (each (q / 64) (omega arith))

-- ---- a block that is made word by word
pub copied_more : (part words : List ℕ) (at i : ℕ) → i < length part → ((j : ℕ) → j < i → get_or part j 0 ≡ get_or words (at + j) 0)
    → (j : ℕ) → j < i + 1 → get_or (set part i (get_or words (at + i) 0)) j 0 ≡ get_or words (at + j) 0
copied_more part words at i inside each j low = elim (cases_eq j i) [
  | inl same ↦ ap (λ (k : ℕ). get_or (set part i (get_or words (at + i) 0)) k 0) same ∙ get_or-set_same part i (get_or words (at + i) 0) 0 inside ∙ ap (λ (k : ℕ). get_or words (at + k) 0) (sym same)
  | inr other ↦ get_or-set_other part i j (get_or words (at + i) 0) 0 other ∙ each j (omega arith)
]

module _ (part old words : List ℕ) (at i : ℕ) (inside : i < length part) (later : (j : ℕ) → i ≤ j → get_or part j 0 ≡ get_or old j 0) where
  abbrev both : ℕ
  both = bit_and (get_or part i 0) (get_or words (at + i) 0)

  pub both_more : ((j : ℕ) → j < i → get_or part j 0 ≡ bit_and (get_or old j 0) (get_or words (at + j) 0))
      → (j : ℕ) → j < i + 1 → get_or (set part i (bit_and (get_or part i 0) (get_or words (at + i) 0))) j 0 ≡ bit_and (get_or old j 0) (get_or words (at + j) 0)
  both_more each j low = elim (cases_eq j i) [
    | inl same ↦
        ap (λ (k : ℕ). get_or (set part i both) k 0) same ∙ get_or-set_same part i both 0 inside ∙ ap (λ (w : ℕ). bit_and w (get_or words (at + i) 0)) (later i (omega arith))
        ∙ ap (λ (k : ℕ). bit_and (get_or old k 0) (get_or words (at + k) 0)) (sym same)
    | inr other ↦ get_or-set_other part i j both 0 other ∙ each j (omega arith)
  ]

  pub later_more : (j : ℕ) → i + 1 ≤ j → get_or (set part i (bit_and (get_or part i 0) (get_or words (at + i) 0))) j 0 ≡ get_or old j 0
  later_more j up = get_or-set_other part i j both 0 (omega arith) ∙ later j (omega arith)

  pub none_more : (some : ℕ) → (some ≡ 0 → (j : ℕ) → j < i → get_or part j 0 ≡ 0) → bit_or some (bit_and (get_or part i 0) (get_or words (at + i) 0)) ≡ 0
      → (j : ℕ) → j < i + 1 → get_or (set part i (bit_and (get_or part i 0) (get_or words (at + i) 0))) j 0 ≡ 0
  none_more some each e j low = elim (cases_eq j i) [
    | inl same ↦ ap (λ (k : ℕ). get_or (set part i both) k 0) same ∙ get_or-set_same part i both 0 inside ∙ (or_none some both e).1
    | inr other ↦ get_or-set_other part i j both 0 other ∙ each (or_none some both e).0 j (omega arith)
  ]

pub some_zero : (n : ℕ) → not (nat_eq n 0) ≡ false → n ≡ 0
some_zero n e = grind (arith, nat_tests)

pub not_below : (a b : ℕ) → nat_lt a b ≡ false → b ≤ a
not_below a b e = grind (arith, nat_tests)

pub none_of : (n i : ℕ) → ◌≡◌ {A = ℕ} (get_or (replicate n 0) i 0) 0
none_of n i = elim (cases_lt i n) [
  | inl below ↦ get_or-replicate n i 0 0 below
  | inr past ↦ get_or_past (replicate n 0) i 0 (subst (λ (k : ℕ). k ≤ i) (sym (length-replicate n 0)) past)
]

-- ---- one place more, and one less
pub set_here : (words : List ℕ) (p : ℕ) → p / 64 < length words → Has (set words (p / 64) (bit_or (get_or words (p / 64) 0) (1 * 2 ^ (p % 64) % 2 ^ 64))) p
unfolding Has
set_here words p inside =
    ap (λ (w : ℕ). bit_at w (p % 64)) (get_or-set_same words (p / 64) (bit_or (get_or words (p / 64) 0) (1 * 2 ^ (p % 64) % 2 ^ 64)) 0 inside)
    ∙ bit_at_set_same w64 (get_or words (p / 64) 0) (p % 64) (omega arith)

set_elsewhere : (words : List ℕ) (p : ℕ) → p / 64 < length words → (q : ℕ) → q ≢ p → Has words q → Has (set words (p / 64) (bit_or (get_or words (p / 64) 0) (1 * 2 ^ (p % 64) % 2 ^ 64))) q
unfolding Has
set_elsewhere words p inside q other h = elim (cases_eq (q / 64) (p / 64)) [
  | inl word ↦
      ap (λ (i : ℕ). bit_at (get_or (set words (p / 64) (bit_or (get_or words (p / 64) 0) (1 * 2 ^ (p % 64) % 2 ^ 64))) i 0) (q % 64)) word
      ∙ ap (λ (w : ℕ). bit_at w (q % 64)) (get_or-set_same words (p / 64) (bit_or (get_or words (p / 64) 0) (1 * 2 ^ (p % 64) % 2 ^ 64)) 0 inside)
      ∙ bit_at_set_other w64 (get_or words (p / 64) 0) (p % 64) (omega arith) (q % 64) (λ e. other (omega arith))
      ∙ ap (λ (i : ℕ). bit_at (get_or words i 0) (q % 64)) (sym word) ∙ h
  | inr apart ↦ ap (λ (w : ℕ). bit_at w (q % 64)) (get_or-set_other words (p / 64) (q / 64) (bit_or (get_or words (p / 64) 0) (1 * 2 ^ (p % 64) % 2 ^ 64)) 0 apart) ∙ h
]

pub set_kept : (words : List ℕ) (p : ℕ) → p / 64 < length words → (q : ℕ) → Has words q → Has (set words (p / 64) (bit_or (get_or words (p / 64) 0) (1 * 2 ^ (p % 64) % 2 ^ 64))) q
set_kept words p inside q h = elim (cases_eq q p) [
  | inl same ↦ subst (Has (set words (p / 64) (bit_or (get_or words (p / 64) 0) (1 * 2 ^ (p % 64) % 2 ^ 64)))) (sym same) (set_here words p inside)
  | inr other ↦ set_elsewhere words p inside q other h
]

pub clear_kept : (words : List ℕ) (p : ℕ) → p / 64 < length words → (q : ℕ) → q ≢ p → Has words q
    → Has (set words (p / 64) (bit_and (get_or words (p / 64) 0) (bit_not w64 (1 * 2 ^ (p % 64) % 2 ^ 64)))) q
unfolding Has
clear_kept words p inside q other h = elim (cases_eq (q / 64) (p / 64)) [
  | inl word ↦
      ap (λ (i : ℕ). bit_at (get_or (set words (p / 64) (bit_and (get_or words (p / 64) 0) (bit_not w64 (1 * 2 ^ (p % 64) % 2 ^ 64)))) i 0) (q % 64)) word
      ∙ ap (λ (w : ℕ). bit_at w (q % 64)) (get_or-set_same words (p / 64) (bit_and (get_or words (p / 64) 0) (bit_not w64 (1 * 2 ^ (p % 64) % 2 ^ 64))) 0 inside)
      ∙ bit_at_clear_other w64 (get_or words (p / 64) 0) (p % 64) (omega arith) (q % 64) (omega arith) (λ e. other (omega arith))
      ∙ ap (λ (i : ℕ). bit_at (get_or words i 0) (q % 64)) (sym word) ∙ h
  | inr apart ↦ ap (λ (w : ℕ). bit_at w (q % 64)) (get_or-set_other words (p / 64) (q / 64) (bit_and (get_or words (p / 64) 0) (bit_not w64 (1 * 2 ^ (p % 64) % 2 ^ 64))) 0 apart) ∙ h
]

-- ---- a look for a place
-- none from one on within its word
pub word_none : (words : List ℕ) (place p : ℕ) → get_or words (place / 64) 0 / 2 ^ (place % 64) ≡ 0 → place ≤ p → p < place / 64 * 64 + 64 → ¬ (Has words p)
unfolding Has
word_none words place p e low high h =
    let w : ℕ = get_or words (place / 64) 0 in
    let word : p / 64 ≡ place / 64 = omega arith in
    let there : bit_at w (p % 64) ≡ 1 = ap (λ (i : ℕ). bit_at (get_or words i 0) (p % 64)) (sym word) ∙ h in
    let far : place % 64 + (p - place) ≡ p % 64 = omega arith in
    let moved : bit_at (w / 2 ^ (place % 64)) (p - place) ≡ bit_at w (p % 64) = ap (λ x. x % 2) (shr-shr w (place % 64) (p - place)) ∙ ap (bit_at w) far in
    let nothing : bit_at (w / 2 ^ (place % 64)) (p - place) ≡ 0 = ap (λ (x : ℕ). bit_at x (p - place)) e ∙ bit_at-zero (p - place) in
    omega arith

-- none before the first
pub first_none : (words : List ℕ) (place p : ℕ) → get_or words (place / 64) 0 < 2 ^ 64 → 0 < get_or words (place / 64) 0 / 2 ^ (place % 64) → place ≤ p
    → p - place < trailing_zeros w64 (get_or words (place / 64) 0 / 2 ^ (place % 64)) → ¬ (Has words p)
unfolding Has
first_none words place p fits some low before h =
    let w : ℕ = get_or words (place / 64) 0 in
    let rest : ℕ = w / 2 ^ (place % 64) in
    let smaller : rest < 2 ^ 64 = (let z = shr_le w (place % 64) in omega arith) in
    let z = bit_at-trailing_zeros w64 rest some smaller in
    let tz : ℕ = trailing_zeros w64 rest in
    let first : bit_at w (place % 64 + tz) ≡ 1 = sym (ap (λ x. x % 2) (shr-shr w (place % 64) tz)) ∙ z.1 in
    let within : place % 64 + tz < 64 = elim (cases_lt (place % 64 + tz) 64) [
      | inl a ↦ a
      | inr b ↦ absurd (let n = bit_at_above w 64 (place % 64 + tz) fits b in omega arith)
    ] in
    let word : p / 64 ≡ place / 64 = omega arith in
    let there : bit_at w (p % 64) ≡ 1 = ap (λ (i : ℕ). bit_at (get_or words i 0) (p % 64)) (sym word) ∙ h in
    let far : place % 64 + (p - place) ≡ p % 64 = omega arith in
    let moved : bit_at rest (p - place) ≡ bit_at w (p % 64) = ap (λ x. x % 2) (shr-shr w (place % 64) (p - place)) ∙ ap (bit_at w) far in
    let nothing : bit_at rest (p - place) ≡ 0 = z.2 (p - place) before in
    omega arith

pub past_none : (words : List ℕ) (p : ℕ) → length words ≤ p / 64 → ¬ (Has words p)
past_none words p far = has_none words p (get_or_past words (p / 64) 0 far)

-- a set that has all places
pub has_all : (n p : ℕ) → p / 64 < n → Has (replicate n 18446744073709551615) p
unfolding Has
has_all n p small = ap (λ (w : ℕ). bit_at w (p % 64)) (get_or-replicate n (p / 64) 18446744073709551615 0 small) ∙ bit_at_ones 64 (p % 64) (omega arith)
