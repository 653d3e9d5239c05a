-- Numbers of at most 14 digits, which need no cap.
use Rattle.std.proofs.Common.{◌≡◌, ℕ, zero, suc, ◌+◌, ◌-◌, ◌*◌, ◌<◌, ◌≤◌, ◌^◌, true, List, [], ◌∷◌, Option, Some, length, get_or, take, drop, sym, ap, subst, ◌∙◌, arith, length-take, add-one}
use Rattle.std.specs.Char.{is_ascii_digit}
use Rattle.std.specs.List.{position_or_len}
use Rattle.std.proofs.Math.Nat.{pow-succ'}
use Rattle.std.proofs.lemmas.Bool.Decides.{nat_tests}
use Rattle.std.proofs.lemmas.List.{get_or-take}
use Rattle.std.proofs.lemmas.List.Sums.{position_or_len_is}
use Rattle.std.specs.Option.{option_and_then}
use Rattle.dimacs.specs.text.Numbers.{natural, negated}
use Rattle.lrat_text.specs.declared.token.Token.TheVariants.{Plus, Minus, Zero}
use Rattle.lrat_text.specs.Parser.{token_of, number_token}
use Rattle.lrat_text.specs.inner.Tokens.{is_space}
use Rattle.lrat_text.proofs.DigitLemmas.{Digits, digits_begin, digits_more}
use Rattle.lrat_text.proofs.NumberLemmas.{natural_is, natural_back, token_decimal, token_zero, minus_small}
use Rattle.lrat_text.proofs.TokenLemmas.{first_minus}

-- digits so far, of which the first is 1 to 9, and their value, which is below a power of ten
pub record Short (text : List ℕ) (len value : ℕ) : Type 0 where
  pub digits : Digits text len value
  pub first : 48 < get_or text 0 0
  pub some : (1 ≤ len) × (1 ≤ value)
  pub room : (len ≤ 14) × (len ≤ length text)
  pub below : value < 10 ^ len

grows : (i k : ℕ) → 10 ^ i ≤ 10 ^ (k + i)
grows i zero = let e : 0 + i ≡ i = omega arith in rw e (omega arith)
grows i (suc k) =
    let same : suc k + i ≡ suc (k + i) = omega arith in
    let e : 10 ^ (suc k + i) ≡ 10 * 10 ^ (k + i) = ap (λ n. 10 ^ n) same ∙ pow-succ' 10 (k + i) in
    omega (arith, grows i k, e)

pub thirteen : (i : ℕ) → i ≤ 13 → 10 ^ i ≤ 10000000000000
thirteen i h =
    let e : (13 - i) + i ≡ 13 = omega arith in
    let g : 10 ^ i ≤ 10 ^ 13 = subst (λ n. 10 ^ i ≤ 10 ^ n) e (grows i (13 - i)) in
    omega (arith, g)

fourteen : (i : ℕ) → i ≤ 14 → 10 ^ i ≤ 100000000000000
fourteen i h =
    let e : (14 - i) + i ≡ 14 = omega arith in
    let g : 10 ^ i ≤ 10 ^ 14 = subst (λ n. 10 ^ i ≤ 10 ^ n) e (grows i (14 - i)) in
    omega (arith, g)

pub short_begin : (text : List ℕ) (b v : ℕ) → 0 < length text → b ≡ get_or text 0 0 → 48 < b → b ≤ 57 → v ≡ b - 48 → Short text 1 v
short_begin text b v some is low high e = record {
  digits = digits_more text 0 b 0 some is (digits_begin text) v (grind (arith, nat_tests)) (omega arith);
  first = omega arith;
  some = (omega arith, omega arith);
  room = (omega arith, omega arith);
  below = omega arith;
}

pub short_more : (text : List ℕ) (i b v d : ℕ) → i < length text → i < 14 → b ≡ get_or text i 0 → is_ascii_digit b ≡ true → d ≡ b - 48 → Short text i v → Short text (i + 1) (10 * v + d)
short_more text i b v d lt few is digit worth so_far =
    let top : 10 ^ i ≤ 10000000000000 = thirteen i (omega arith) in
    let nine : b ≤ 57 = grind (arith, nat_tests) in
    let e : 10 ^ (i + 1) ≡ 10 * 10 ^ i = ap (λ n. 10 ^ n) (add-one i) ∙ pow-succ' 10 i in
    record {
      digits = digits_more text i b v lt is so_far.digits (10 * v + d) digit (omega (arith, so_far.below, top));
      first = so_far.first;
      some = (omega arith, omega (arith, so_far.some));
      room = (omega arith, omega arith);
      below = omega (arith, so_far.below, e);
    }

module _ (text : List ℕ) (len value : ℕ) (short : Short text len value) where
  pub short_value : natural (take len text) ≡ Some value
  short_value =
      let top : 10 ^ len ≤ 100000000000000 = fourteen len short.room.0 in
      let same : short.digits.number ≡ value = omega (arith, short.digits.kept, short.below, top) in
      natural_is (take len text) value (short.digits.read ∙ ap Some same) (omega (arith, length-take len text, short.some, short.room)) (subst (λ x. 48 < x) (sym (get_or-take len text 0 0 (omega (arith, short.some)))) short.first)

  pub short_len : (len < length text → is_space (get_or text len 0) ≡ true) → len ≡ position_or_len is_space text
  short_len ends = sym (position_or_len_is is_space text len 0 (omega (arith, short.room)) short.digits.ink ends)

  pub short_small : value < 2 ^ 48
  short_small = let top : 10 ^ len ≤ 100000000000000 = fourteen len short.room.0 in omega (arith, short.below, top)

-- a short number is a token, also after a minus, and so is 0
pub short_plus : (word : List ℕ) (n : ℕ) → natural word ≡ Some n → 1 ≤ n → n < 2 ^ 48 → Plus n ≡ token_of word
short_plus word n is low high = sym (ap token_of (natural_back word n is (omega arith)) ∙ token_decimal n (low, high))

pub short_minus : (text : List ℕ) (len n : ℕ) → 0 < length text → get_or text 0 0 ≡ 45 → natural (take len (take (length text - 1) (drop 1 text))) ≡ Some n → 1 ≤ n → n < 2 ^ 48
    → Minus n ≡ token_of (take (len + 1) text)
short_minus text len n some first is low high =
    first_minus text len (Minus n) some first (sym (ap (λ (o : Option ℕ). number_token (option_and_then negated o)) is ∙ minus_small n low high))

pub zero_token : (word : List ℕ) → word ≡ 48 ∷ [] → Zero ≡ token_of word
zero_token word is = sym (ap token_of is ∙ token_zero)
