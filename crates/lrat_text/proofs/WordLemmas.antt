-- Digits that are read eight bytes at a time.
use Rattle.std.proofs.Common.{◌≡◌, ℕ, zero, suc, ◌+◌, ◌-◌, ◌*◌, ◌%◌, ◌<◌, ◌≤◌, ◌^◌, true, List, [], ◌∷◌, length, get_or, take, drop, slice_range, refl, sym, ap, subst, ◌∙◌, inl, inr, arith, length-take}
use Rattle.std.specs.Char.{is_ascii_digit, digit_value}
use Rattle.std.specs.Float.Numeral.{digits_len}
use Rattle.std.specs.Str.Parse.{AllDigits, digits_value}
use Rattle.std.proofs.lemmas.Bool.{cases_Bool, cases_lt}
use Rattle.std.proofs.lemmas.List.{get_or-take, take-take}
use Rattle.core.proofs.dec2flt.DigitsLemmas.{digit_range, digits_value_after_is, is_digit}
use Rattle.core.proofs.dec2flt.Rows.{AllDigits-digits_len}
use Rattle.core.proofs.str.DigitValues.{digits_value-lt, digits_value_more}
use Rattle.lrat_text.proofs.ShortLemmas.{Short, short_begin, short_more, thirteen}

-- each byte of the run of digits at the front is one
digit_before : (xs : List ℕ) (k : ℕ) → k < digits_len xs → is_ascii_digit (get_or xs k 0) ≡ true
digit_before [] k h = absurd (omega arith)
digit_before (x ∷ xs) zero h = elim (cases_Bool (is_ascii_digit x)) [ inl e ↦ e | inr e ↦ absurd (omega (arith, rw e at h)) ]
digit_before (x ∷ xs) (suc k) h =
    elim (cases_Bool (is_ascii_digit x)) [ inl e ↦ digit_before xs k (omega (arith, rw e at h)) | inr e ↦ absurd (omega (arith, rw e at h)) ]

-- a digit is worth what is above the byte of 0
worth : (b : ℕ) → is_ascii_digit b ≡ true → digit_value b ≡ b - 48
worth b e = let r = digit_range b e in (is_digit b r.0 r.1).1

module _ (text : List ℕ) (some : 0 < length text) (first : 48 < get_or text 0 0) where
  -- so many digits, and the number that they write
  counted : (i : ℕ) → i < 8 → i < length text → ((k : ℕ) → k < i + 1 → is_ascii_digit (get_or text k 0) ≡ true) → Short text (i + 1) (digits_value 10 (take (i + 1) text))
  counted zero few lt digit =
      let here = digit 0 (omega arith) in
      let value : digits_value 10 (take (0 + 1) text) ≡ get_or text 0 0 - 48 = omega (arith, digits_value_more 10 text 0 some, worth (get_or text 0 0) here) in
      short_begin text (get_or text 0 0) _ some refl first (digit_range _ here).1 value
  counted (suc i) few lt digit =
      let here = digit (suc i) (omega arith) in
      let same : suc i ≡ i + 1 = omega arith in
      let before : Short text (suc i) (digits_value 10 (take (suc i) text)) =
      rw same (counted i (omega arith) (omega arith) (λ k h. digit k (omega arith))) in
      let value : digits_value 10 (take (suc i + 1) text) ≡ 10 * digits_value 10 (take (suc i) text) + (get_or text (suc i) 0 - 48) =
      omega (arith, digits_value_more 10 text (suc i) lt, worth (get_or text (suc i) 0) here) in
      subst (λ v. Short text (suc i + 1) v) (sym value) (short_more text (suc i) _ _ _ lt (omega arith) refl here refl before)

-- a number as great as the least of so many digits does not begin with 0
leading : (b : ℕ) (bs : List ℕ) (m value : ℕ) → is_ascii_digit b ≡ true → AllDigits 10 (take m bs) → m ≤ length bs → value ≡ digits_value 10 (b ∷ take m bs) → 10 ^ m ≤ value → 48 < b
leading b bs m value digit all fits is low =
    elim (cases_lt 48 b) [
      | inl more ↦ more
      | inr less ↦
          let zero_ : digit_value b ≡ 0 = omega (arith, worth b digit, less) in
          let long : length (take m bs) ≡ m = omega (arith, length-take m bs) in
          let sum : digits_value 10 (b ∷ take m bs) ≡ (0 * 10 + 0) * 10 ^ length (take m bs) + digits_value 10 (take m bs) =
          digits_value_after_is (0 * 10 + digit_value b) (take m bs) ∙ ap (λ v. (0 * 10 + v) * 10 ^ length (take m bs) + digits_value 10 (take m bs)) zero_ in
          let short : digits_value 10 (take m bs) < 10 ^ m = subst (λ n. digits_value 10 (take m bs) < 10 ^ n) long (digits_value-lt 10 (take m bs) all) in
          absurd (omega (arith, is, low, sum, short))
    ]

front_is : (b : ℕ) (bs : List ℕ) (n : ℕ) → 1 ≤ n → take n (b ∷ bs) ≡ b ∷ take (n - 1) bs
front_is b bs zero h = absurd (omega arith)
front_is b bs (suc n) h = let e : n ≡ suc n - 1 = omega arith in ap (λ k. b ∷ take k bs) e

-- what a word tells of a text that begins with its eight bytes
pub word_short : (text : List ℕ) (len value : ℕ) → 8 ≤ length text → 1 ≤ len → len ≤ 8 → len ≡ 0 + digits_len (drop 0 (take 8 text))
    → value ≡ (0 * 10 ^ (len - 0) + digits_value 10 (slice_range (take 8 text) 0 len)) % 2 ^ 64 → 10 ^ (len - 1) ≤ value → Short text len value
word_short [] len value long some few end is low = absurd (omega arith)
word_short (b ∷ bs) len value long some few end is low =
    let text = b ∷ bs in
    let all : (k : ℕ) → k < len → is_ascii_digit (get_or text k 0) ≡ true =
    λ k h. ap is_ascii_digit (sym (get_or-take 8 text k 0 (omega arith))) ∙ digit_before (take 8 text) k (omega (arith, end)) in
    let back : len - 1 + 1 ≡ len = omega arith in
    let front : take len (take 8 text) ≡ take len text = take-take len 8 text few in
    let top : 10 ^ len ≤ 10000000000000 = thirteen len (omega arith) in
    let digits : AllDigits 10 (take len text) = subst (AllDigits 10) front (AllDigits-digits_len (take 8 text) len (omega (arith, end))) in
    let whole : length (take len text) ≡ len = omega (arith, length-take len text) in
    let small : digits_value 10 (take len text) < 10 ^ len = subst (λ n. digits_value 10 (take len text) < 10 ^ n) whole (digits_value-lt 10 (take len text) digits) in
    let cut : slice_range (take 8 text) 0 len ≡ take len text = let z : len - 0 ≡ len = omega arith in ap (λ n. take n (take 8 text)) z ∙ front in
    let same : value ≡ digits_value 10 (take len text) =
    is ∙ ap (λ ds. (0 * 10 ^ (len - 0) + digits_value 10 ds) % 2 ^ 64) cut ∙ omega (arith, small, top) in
    let split = front_is b bs len some in
    let first : 48 < b = leading b bs (len - 1) value (all 0 (omega arith)) (subst (AllDigits 10) split digits).1 (omega (arith, long)) (same ∙ ap (digits_value 10) split) low in
    subst (λ v. Short text len v) (sym same)
    (subst (λ n. Short text n (digits_value 10 (take n text))) back (counted text (omega arith) first (len - 1) (omega arith) (omega arith) (λ k h. all k (omega arith))))
