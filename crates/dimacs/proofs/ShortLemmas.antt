-- Numbers of few digits, which need no cap.
use Rattle.std.proofs.Common.{◌≡◌, ℕ, zero, suc, ◌+◌, ◌-◌, ◌*◌, ◌<◌, ◌≤◌, ◌^◌, ◌≢◌, min, Bool, true, false, cond, MatchBool, List, [], ◌∷◌, Some, length, get_or, take, drop, refl, sym, ap, subst, ◌∙◌, arith, length-take, add-one}
use Rattle.std.specs.Char.{is_ascii_digit}
use Rattle.std.specs.List.{position_or_len}
use Rattle.std.specs.Option.{option_map, option_and_then}
use Rattle.std.proofs.Math.Nat.{pow-succ'}
use Rattle.std.proofs.lemmas.Bool.{ne_eqb}
use Rattle.std.proofs.lemmas.Bool.Decides.{nat_tests}
use Rattle.std.proofs.lemmas.List.{get_or-take, take_all}
use Rattle.std.proofs.lemmas.List.Sums.{position_or_len_is}
use Rattle.dimacs.specs.inner.Capped.{capped}
use Rattle.dimacs.specs.text.Numbers.{digits_from, natural, negated, positive, number}
use Rattle.dimacs.specs.text.Words.{is_white}
use Rattle.dimacs.proofs.NumberLemmas.{Digits, digits_begin, digits_more, minus_front}

-- digits so far, of which the first is 1 to 9, and their value, which is below a power of ten
pub record Short (text : List ℕ) (len value : ℕ) : Type 0 where
  pub digits : Digits text len value
  pub first : 48 < get_or text 0 0
  pub some : (1 ≤ len) × (1 ≤ value)
  pub room : (len ≤ 8) × (len ≤ length text)
  pub below : value < 10 ^ len

grows : (i k : ℕ) → 10 ^ i ≤ 10 ^ (k + i)
grows i zero = let e : 0 + i ≡ i = omega arith in rw e (omega arith)
grows i (suc k) =
    let same : suc k + i ≡ suc (k + i) = omega arith in
    let e : 10 ^ (suc k + i) ≡ 10 * 10 ^ (k + i) = ap (λ n. 10 ^ n) same ∙ pow-succ' 10 (k + i) in
    omega (arith, grows i k, e)

-- seven digits are a number below ten million
pub seven : (i : ℕ) → i ≤ 7 → 10 ^ i ≤ 10000000
seven i h =
    let e : (7 - i) + i ≡ 7 = omega arith in
    let g : 10 ^ i ≤ 10 ^ 7 = subst (λ n. 10 ^ i ≤ 10 ^ n) e (grows i (7 - i)) in
    omega (arith, g)

pub eight : (i : ℕ) → i ≤ 8 → 10 ^ i ≤ 100000000
eight i h =
    let e : (8 - i) + i ≡ 8 = omega arith in
    let g : 10 ^ i ≤ 10 ^ 8 = subst (λ n. 10 ^ i ≤ 10 ^ n) e (grows i (8 - i)) in
    omega (arith, g)

pub short_begin : (text : List ℕ) (b v : ℕ) → 0 < length text → b ≡ get_or text 0 0 → 48 < b → b ≤ 57 → v ≡ b - 48 → Short text 1 v
short_begin text b v some is low high e = record {
  digits = digits_more text 0 b 0 some is (digits_begin text) v (grind (arith, nat_tests)) (omega arith);
  first = omega arith;
  some = (omega arith, omega arith);
  room = (omega arith, omega arith);
  below = omega arith;
}

pub short_more : (text : List ℕ) (i b v d : ℕ) → i < length text → i < 8 → b ≡ get_or text i 0 → is_ascii_digit b ≡ true → d ≡ b - 48 → Short text i v → Short text (i + 1) (10 * v + d)
short_more text i b v d lt few is digit worth so_far =
    let top : 10 ^ i ≤ 10000000 = seven i (omega arith) in
    let nine : b ≤ 57 = grind (arith, nat_tests) in
    let e : 10 ^ (i + 1) ≡ 10 * 10 ^ i = ap (λ n. 10 ^ n) (add-one i) ∙ pow-succ' 10 i in
    record {
      digits = digits_more text i b v lt is so_far.digits (10 * v + d) digit (omega (arith, so_far.below, top));
      first = so_far.first;
      some = (omega arith, omega (arith, so_far.some));
      room = (omega arith, omega arith);
      below = omega (arith, so_far.below, e);
    }

natural_is : (ds : List ℕ) (n : ℕ) → digits_from 0 ds ≡ Some n → 0 < length ds → 48 < get_or ds 0 0 → natural ds ≡ Some n
natural_is [] n e some first = absurd (omega arith)
natural_is (b ∷ []) n e some first = e
natural_is (b ∷ d ∷ ds) n e some first = rw (ne_eqb b 48 (λ same. omega arith)) e

module _ (text : List ℕ) (len value : ℕ) (short : Short text len value) where
  pub short_value : natural (take len text) ≡ Some value
  short_value =
      let top : 10 ^ len ≤ 100000000 = eight len short.room.0 in
      let same : short.digits.number ≡ value = omega (arith, short.digits.kept, short.below, top) in
      natural_is (take len text) value (short.digits.read ∙ ap Some same) (omega (arith, length-take len text, short.some, short.room)) (subst (λ x. 48 < x) (sym (get_or-take len text 0 0 (omega (arith, short.some)))) short.first)

  pub short_len : (len < length text → is_white (get_or text len 0) ≡ true) → len ≡ position_or_len is_white text
  short_len ends = sym (position_or_len_is is_white text len 0 (omega (arith, short.room)) short.digits.ink ends)

  pub short_small : value < 100000000
  short_small = let top : 10 ^ len ≤ 100000000 = eight len short.room.0 in omega (arith, short.below, top)

capped_negated : (n : ℕ) → 1 ≤ n → n < 100000000 → option_map capped (negated n) ≡ Some (record { negative = true; size = n })
capped_negated zero some small = absurd (omega arith)
capped_negated (suc n) some small = let e : min 100000000 (suc n) ≡ suc n = omega arith in rw e refl

-- a short number after a minus
pub short_minus : (text u : List ℕ) (len n : ℕ) → 0 < length text → get_or text 0 45 ≡ 45 → u ≡ take (length text - 1) (drop 1 text) → natural (take len u) ≡ Some n → 1 ≤ n → n < 100000000
    → option_map capped (number (take (len + 1) text)) ≡ Some (record { negative = true; size = n })
short_minus text u len n some first is value low small =
    let front : take (len + 1) text ≡ 45 ∷ take len u = rw (minus_front text u some first is, add-one len) refl in
    rw (front, value) (capped_negated n low small)

plain_first : (text : List ℕ) (len : ℕ) → get_or (take len text) 0 0 ≡ 45 → get_or text 0 0 ≡ 45
plain_first text zero h = absurd (omega arith)
plain_first [] (suc len) h = absurd (omega arith)
plain_first (b ∷ bs) (suc len) h = h

number_plain : (word : List ℕ) → (get_or word 0 0 ≡ 45 → ⊥) → number word ≡ option_and_then positive (natural word)
number_plain [] h = refl
number_plain (b ∷ bs) h = rw (ne_eqb b 45 h) refl

short_plain : (text : List ℕ) (len n : ℕ) → (get_or text 0 0 ≡ 45 → ⊥) → natural (take len text) ≡ Some n → n < 100000000
    → option_map capped (number (take len text)) ≡ Some (record { negative = false; size = n })
short_plain text len n first is small =
    let e : min 100000000 n ≡ n = omega arith in
    ap (option_map capped) (number_plain (take len text) (λ h. first (plain_first text len h)) ∙ ap (option_and_then positive) is)
    ∙ ap (λ k. Some (record { negative = false; size = k })) e

-- whether a minus stands first
abbrev pub BeginsWithMinus : Bool → List ℕ → Type 0
BeginsWithMinus b text = MatchBool b ((0 < length text) × (get_or text 0 0 ≡ 45)) (get_or text 0 0 ≢ 45)

front_or : (text : List ℕ) → 0 < length text → get_or text 0 0 ≡ 45 → get_or text 0 45 ≡ 45
front_or [] some h = absurd (omega arith)
front_or (b ∷ bs) some h = h

-- the sign, and a short number after it
pub signed_value : (text u : List ℕ) (b : Bool) (k len n : ℕ) → BeginsWithMinus b text → k ≡ cond b 1 0 → u ≡ take (length text - k) (drop k text) → natural (take len u) ≡ Some n → 1 ≤ n → n < 100000000
    → option_map capped (number (take (len + k) text)) ≡ Some (record { negative = b; size = n })
signed_value text u true k len n first e is value low small =
    rw e (short_minus text u len n first.0 (front_or text first.0 first.1) (is ∙ ap (λ j. take (length text - j) (drop j text)) e) value low small)
signed_value text u false k len n first e is value low small =
    let all : u ≡ text = is ∙ ap (λ j. take (length text - j) (drop j text)) e ∙ take_all (length text - 0) text (omega arith) in
    let same : len + k ≡ len = omega arith in
    rw same (short_plain text len n first (ap (λ x. natural (take len x)) (sym all) ∙ value) small)
