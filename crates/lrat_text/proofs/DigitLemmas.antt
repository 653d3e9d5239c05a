-- Digits of a token, and where they end.
use Rattle.std.proofs.Common.{◌≡◌, ℕ, zero, suc, ◌+◌, ◌-◌, ◌*◌, ◌<◌, ◌≤◌, ◌^◌, min, Bool, true, false, cond, List, [], ◌∷◌, ◌++◌, Option, Some, None, length, get_or, take, refl, sym, ap, ◌∙◌, arith, length-take, ⊎_elim}
use Rattle.std.specs.Char.{is_ascii_digit}
use Rattle.std.specs.List.{position_or_len}
use Rattle.std.proofs.lemmas.Bool.{cases_lt}
use Rattle.std.proofs.lemmas.Bool.Decides.{nat_tests}
use Rattle.std.proofs.lemmas.List.{take_more, get_or-take}
use Rattle.std.proofs.lemmas.List.Sums.{position_or_len_is, passes_at_first}
use Rattle.dimacs.specs.text.Numbers.{digits_from}
use Rattle.lrat_text.specs.inner.Tokens.{is_space}

pub digits_append : (xs ys : List ℕ) (m n : ℕ) → digits_from m xs ≡ Some n → digits_from m (xs ++ ys) ≡ digits_from n ys
digits_append [] ys m n h = let same : m ≡ n = cc in ap (λ k. digits_from k ys) same
digits_append (x ∷ xs) ys m n h = by_digit (is_ascii_digit x) refl h (λ q. digits_append xs ys (10 * m + (x - 48)) n q) where
  by_digit : (t : Bool) → is_ascii_digit x ≡ t → cond t (digits_from (10 * m + (x - 48)) xs) None ≡ Some n → (digits_from (10 * m + (x - 48)) xs ≡ Some n → digits_from (10 * m + (x - 48)) (xs ++ ys) ≡ digits_from n ys)
      → cond (is_ascii_digit x) (digits_from (10 * m + (x - 48)) (xs ++ ys)) None ≡ digits_from n ys
  by_digit true e q goes = rw e (goes q)
  by_digit false e q goes = absurd (cc)

by_none : (t : Bool) (o : Option ℕ) → o ≡ None → cond t o None ≡ None
by_none true o h = h
by_none false o h = refl

-- where a byte is no digit there is no value
digits_none : (xs : List ℕ) (k n : ℕ) → k < length xs → is_ascii_digit (get_or xs k 0) ≡ false → digits_from n xs ≡ None
digits_none [] k n lt h = absurd (omega arith)
digits_none (x ∷ xs) zero n lt h = rw h refl
digits_none (x ∷ xs) (suc k) n lt h = by_none (is_ascii_digit x) (digits_from (10 * n + (x - 48)) xs) (digits_none xs k (10 * n + (x - 48)) (omega arith) h)

digit_ink : (b : ℕ) → is_ascii_digit b ≡ true → is_space b ≡ false
digit_ink b h = grind (arith, nat_tests)

white_digit : (b : ℕ) → is_space b ≡ true → is_ascii_digit b ≡ false
white_digit b h = grind (arith, nat_tests)

-- digits so far, and what is kept of their value
pub record Digits (text : List ℕ) (i value : ℕ) : Type 0 where
  pub ink : (k : ℕ) → k < i → is_space (get_or text k 0) ≡ false
  pub number : ℕ
  pub read : digits_from 0 (take i text) ≡ Some number
  pub kept : value ≡ min (2 ^ 48) number

pub digits_begin : (text : List ℕ) → Digits text 0 0
digits_begin text = record { ink = λ k h. absurd (omega arith); number = 0; read = refl; kept = omega arith }

ink_more : (text : List ℕ) (i : ℕ) → ((k : ℕ) → k < i → is_space (get_or text k 0) ≡ false) → is_space (get_or text i 0) ≡ false → (k : ℕ) → k < i + 1 → is_space (get_or text k 0) ≡ false
ink_more text i below here k lt = ⊎_elim
    (λ (less : k < i). below k less)
    (λ (last : i ≤ k). let at : k ≡ i = omega arith in rw at here)
    (cases_lt k i)

module _ (text : List ℕ) (i b v : ℕ) (lt : i < length text) (is : b ≡ get_or text i 0) (so_far : Digits text i v) where
  pub digits_more : (w : ℕ) → is_ascii_digit b ≡ true → w ≡ min (2 ^ 48) (10 * v + (b - 48)) → Digits text (i + 1) w
  digits_more w digit e =
      let one : take (i + 1) text ≡ take i text ++ b ∷ [] = take_more text i 0 lt ∙ ap (λ x. take i text ++ x ∷ []) (sym is) in
      let step : digits_from so_far.number (b ∷ []) ≡ Some (10 * so_far.number + (b - 48)) = rw digit refl in
      record {
        ink = ink_more text i so_far.ink (ap is_space (sym is) ∙ digit_ink b digit);
        number = 10 * so_far.number + (b - 48);
        read = ap (digits_from 0) one ∙ digits_append (take i text) (b ∷ []) 0 so_far.number so_far.read ∙ step;
        kept = omega (arith, so_far.kept);
      }

  -- white space ends the token
  pub digits_len : is_space b ≡ true → i ≡ position_or_len is_space text
  digits_len white = sym (position_or_len_is is_space text i 0 (omega arith) so_far.ink (λ _. ap is_space (sym is) ∙ white))

  -- another byte stands in the token
  pub digits_bad : (m : ℕ) → m ≡ position_or_len is_space text → m ≤ length text → is_ascii_digit b ≡ false → is_space b ≡ false → digits_from 0 (take m text) ≡ None
  digits_bad m e top other ink =
      let more = ink_more text i so_far.ink (ap is_space (sym is) ∙ ink) in
      let beyond : i < m = ⊎_elim
      (λ (less : m < i + 1).
      let first : position_or_len is_space text < length text = omega arith in
      let white : is_space (get_or text m 0) ≡ true = rw e (passes_at_first is_space text 0 first) in
      let no : is_space (get_or text m 0) ≡ false = more m less in
      absurd (cc))
      (λ (rest : i + 1 ≤ m). let r : i < m = omega arith in r)
      (cases_lt m (i + 1)) in
      digits_none (take m text) i 0 (omega (arith, length-take m text)) (ap is_ascii_digit (get_or-take m text i 0 beyond ∙ sym is) ∙ other)

-- the token is the whole text
pub digits_all : (text : List ℕ) (i v : ℕ) → i ≡ length text → Digits text i v → length text ≡ position_or_len is_space text
digits_all text i v e d = sym (position_or_len_is is_space text (length text) 0 (omega arith) (λ k lt. d.ink k (omega arith)) (λ h. absurd (omega arith)))
