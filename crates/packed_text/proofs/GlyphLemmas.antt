-- The characters of lines and their halves of a byte, place by place.
use Rattle.std.proofs.Common.{◌≡◌, ℕ, zero, suc, ◌-◌, ◌/◌, ◌%◌, ◌<◌, List, ◌++◌, ◌∙◌, All, map, ap, append_assoc, Bool, true, false, not, ◌&&◌, ◌||◌, nat_lt, nat_le, ◌≤◌, [], ◌∷◌, bytes_eq, refl, sym, inl, inr, arith, eq-zero-or-pos, true≢false}
use Rattle.std.proofs.lemmas.Bool.Decides.{nat_tests}
use Rattle.std.proofs.lemmas.Slice.Eq.{bytes_eq-Decides}
use Rattle.std.specs.List.{flat_map}
use Rattle.std.proofs.lemmas.List.Elements.{All-nil, All-cons, All-head, All-tail}
use Rattle.packed_text.specs.Packed.{byte_text, half_text}
use Rattle.packed_text.specs.inner.Packed.{IsPair}
use Rattle.packed_text.specs.inner.Glyphs.{digit_code, other_code, character, halves}
use Rattle.lrat_text.proofs.SpellingLemmas.{both_true}

-- the first so many halves stand for their characters
abbrev are_halves : ℕ → Bool
are_halves zero = true
are_halves (suc n) = bytes_eq (half_text n) (character n ∷ []) && are_halves n

half_at : (n h : ℕ) → are_halves n ≡ true → h < n → half_text h ≡ character h ∷ []
half_at zero h t lt = absurd (omega arith)
half_at (suc n) h t lt =
    let both = both_true _ (are_halves n) t in
    elim (eq-zero-or-pos (n - h)) [
      | inl z ↦ let e : h ≡ n = omega arith in rw e ((bytes_eq-Decides (half_text n) (character n ∷ [])).0 both.0)
      | inr g ↦ half_at n h both.1 (omega arith)
    ]

pub glyph_at : (h : ℕ) → h < 14 → half_text h ≡ character h ∷ []
glyph_at h lt = half_at 14 h refl lt

character_is : (h : ℕ) → h < 14 → character h ∷ [] ≡ half_text h
character_is h lt = sym (glyph_at h lt)

-- the characters of the halves of bytes are what the bytes stand for
pub characters : (bs : List ℕ) → All IsPair bs → map character (flat_map halves bs) ≡ flat_map byte_text bs
characters [] h = refl
characters (b ∷ bs) h =
    let here = All-head IsPair b bs h in
    ap (λ (t : List ℕ). character (b / 16) ∷ character (b % 16) ∷ t) (characters bs (All-tail IsPair b bs h))
    ∙ ap (λ (t : List ℕ). (character (b / 16) ∷ []) ++ (t ++ flat_map byte_text bs)) (character_is (b % 16) here.1)
    ∙ ap (λ (t : List ℕ). t ++ (half_text (b % 16) ++ flat_map byte_text bs)) (character_is (b / 16) here.0)
    ∙ sym (append_assoc (half_text (b / 16)) (half_text (b % 16)) (flat_map byte_text bs))

-- each half of a byte is that of a character
pub are_low : (bs : List ℕ) → All IsPair bs → All (λ h. h < 14) (flat_map halves bs)
are_low [] h = All-nil (λ h. h < 14)
are_low (b ∷ bs) h =
    let here = All-head IsPair b bs h in
    All-cons (λ h. h < 14) (b / 16) (b % 16 ∷ flat_map halves bs) here.0 (All-cons (λ h. h < 14) (b % 16) (flat_map halves bs) here.1 (are_low bs (All-tail IsPair b bs h)))

-- a byte's half stands for it, where that is a character's
abbrev pub code_of : ℕ → ℕ
code_of b = digit_code b - other_code b

abbrev coded : ℕ → Bool
coded b = nat_le (other_code b) (digit_code b) && (nat_lt (code_of b) 16 && (not (nat_lt (code_of b) 14) || bytes_eq (half_text (code_of b)) (b ∷ [])))

abbrev codes_below : ℕ → Bool
codes_below zero = true
codes_below (suc n) = coded n && codes_below n

coded_at : (n b : ℕ) → codes_below n ≡ true → b < n → coded b ≡ true
coded_at zero b t lt = absurd (omega arith)
coded_at (suc n) b t lt =
    let both = both_true (coded n) (codes_below n) t in
    elim (eq-zero-or-pos (n - b)) [
      | inl z ↦ let e : b ≡ n = omega arith in rw e both.0
      | inr g ↦ coded_at n b both.1 (omega arith)
    ]

implied : (a b : Bool) → not a || b ≡ true → a ≡ true → b ≡ true
implied true b h e = h
implied false b h e = absurd (true≢false (sym e))

less : (a b : ℕ) → nat_lt a b ≡ true → a < b
less a b h = grind (arith, nat_tests)

at_most : (a b : ℕ) → nat_le a b ≡ true → a ≤ b
at_most a b h = grind (arith, nat_tests)

is_less : (a b : ℕ) → a < b → nat_lt a b ≡ true
is_less a b h = grind (arith, nat_tests)

-- what is computed of a byte
pub record IsCoded (b : ℕ) : Type 0 where
  pub least : other_code b ≤ digit_code b
  pub half : code_of b < 16
  pub text : code_of b < 14 → half_text (code_of b) ≡ b ∷ []

pub code_at : (b : ℕ) → b < 256 → IsCoded b
code_at b lt =
    let first = both_true (nat_le (other_code b) (digit_code b)) _ (coded_at 256 b refl lt) in
    let second = both_true (nat_lt (code_of b) 16) _ first.1 in
    record {
      least = at_most (other_code b) (digit_code b) first.0;
      half = less (code_of b) 16 second.0;
      text = λ small. (bytes_eq-Decides (half_text (code_of b)) (b ∷ [])).0 (implied (nat_lt (code_of b) 14) _ second.1 (is_less (code_of b) 14 small));
    }
