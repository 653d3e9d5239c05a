-- Numbers as tokens.
use Rattle.std.proofs.Common.{◌≡◌, ℕ, zero, suc, ◌+◌, ◌-◌, ◌*◌, ◌/◌, ◌%◌, ◌^◌, ◌<◌, ◌≤◌, Bool, true, false, cond, eqb, List, [], ◌∷◌, ◌++◌, ℤ, pos, negsuc, Option, Some, None, length, get_or, nat_lt, refl, sym, ap, ◌∙◌, arith, bytes_eq, codes, decimal, rules}
use Rattle.std.specs.Option.{option_and_then}
use Rattle.std.specs.Char.{is_ascii_digit}
use Rattle.std.specs.Str.{all_ascii_digits}
use Rattle.std.specs.List.{AllByRecursion}
use Rattle.std.proofs.lemmas.Bool.{ne_eqb}
use Rattle.std.proofs.lemmas.Bool.Decides.{nat_tests}
use Rattle.std.proofs.lemmas.Slice.Eq.{bytes_eq-Decides}
use Rattle.std.proofs.lemmas.Str.Parse.{IsNumeralModel, numerals_by_fold}
use Rattle.std.proofs.lemmas.Fmt.{decimal_by_steps, first_decimal, decimal_nonempty, decimal_digit, decimal-digits_value}
use Rattle.dimacs.specs.text.Numbers.{number, natural, digits_from, negated, positive}
use Rattle.dimacs.specs.logic.Literal.{Neg}
use Rattle.lrat_text.specs.declared.token.Token.{Token}
use Rattle.lrat_text.specs.declared.token.Token.TheVariants.{Letter, Zero, Plus, Minus, LargePlus, LargeMinus}
use Rattle.lrat_text.specs.Grammar.{IsClauseNumber, literal_token}
use Rattle.lrat_text.specs.Parser.{token_of, number_token}
use Rattle.lrat_text.proofs.TokenLemmas.{token_minus, token_plus}

-- which way a test went
pub chosen_some : {A : Type 0} (b : Bool) (o : Option A) (x : A) → cond b o None ≡ Some x → (b ≡ true) × (o ≡ Some x)
chosen_some true o x h = (refl, h)
chosen_some false o x h = absurd (cc)

-- ---- what digits are worth

abbrev read_on : ℕ → List ℕ → ℕ
read_on n [] = n
read_on n (c ∷ cs) = read_on (10 * n + (c - 48)) cs

own : IsNumeralModel (λ ds. all_ascii_digits ds ≡ true) (read_on 0)
own = numerals_by_fold _ (search rules) read_on (search rules)

digits_read : (ds : List ℕ) (m n : ℕ) → digits_from m ds ≡ Some n → (all_ascii_digits ds ≡ true) × (read_on m ds ≡ n)
digits_read [] m n h = (refl, cc)
digits_read (b ∷ bs) m n h =
    let c = chosen_some (is_ascii_digit b) (digits_from (10 * m + (b - 48)) bs) n h in
    let r = digits_read bs (10 * m + (b - 48)) n c.1 in
    (rw (c.0, r.0) refl, r.1)

-- a number is spelled in one way
digits_back : (w : List ℕ) (n : ℕ) → digits_from 0 w ≡ Some n → 0 < length w → (get_or w 0 0 ≡ 48 → length w ≡ 1) → n < 2 ^ 64 → w ≡ decimal n
digits_back w n h some first small =
    let r = digits_read w 0 n h in
    sym (decimal-digits_value own w r.0 some first (omega (arith, r.1))) ∙ ap decimal r.1

pub natural_back : (w : List ℕ) (n : ℕ) → natural w ≡ Some n → n < 2 ^ 64 → w ≡ decimal n
natural_back [] n h small = absurd (cc)
natural_back (b ∷ []) n h small = digits_back (b ∷ []) n h (omega arith) (λ _. omega arith) small
natural_back (b ∷ d ∷ ds) n h small = by_zero (eqb b 48) refl h
  where
    by_zero : (t : Bool) → eqb b 48 ≡ t → cond t None (digits_from 0 (b ∷ d ∷ ds)) ≡ Some n → b ∷ d ∷ ds ≡ decimal n
    by_zero true e q = absurd (cc)
    by_zero false e q = digits_back (b ∷ d ∷ ds) n q (omega arith) (λ same. absurd (differ (same_eqb b 48 same) e)) small
      where
        differ : {t : Bool} → t ≡ true → t ≡ false → ⊥
        differ p q = cc

        same_eqb : (x y : ℕ) → x ≡ y → eqb x y ≡ true
        same_eqb x y e = grind (arith, nat_tests)

-- ---- what is written is read

is_digit_more : (d : ℕ) → d < 10 → is_ascii_digit (48 + d) ≡ true
is_digit_more d h = grind (arith, nat_tests)

digits_one : (m d : ℕ) → d < 10 → digits_from m ((48 + d) ∷ []) ≡ Some (10 * m + d)
digits_one m d h = let e : (48 + d) - 48 ≡ d = omega arith in rw (is_digit_more d h, e) refl

digits_append : (xs ys : List ℕ) (m n : ℕ) → digits_from m xs ≡ Some n → digits_from m (xs ++ ys) ≡ digits_from n ys
digits_append [] ys m n h = let same : m ≡ n = cc in ap (λ k. digits_from k ys) same
digits_append (x ∷ xs) ys m n h =
    let c = chosen_some (is_ascii_digit x) (digits_from (10 * m + (x - 48)) xs) n h in
    rw c.0 (digits_append xs ys (10 * m + (x - 48)) n c.1)

decimal_value : (n : ℕ) → n < 2 ^ 64 → digits_from 0 (decimal n) ≡ Some n
decimal_value n h = decimal_by_steps (λ k ds. digits_from 0 ds ≡ Some k)
    (λ k lt. digits_one 0 k lt ∙ ap Some (omega arith))
    (λ k ds ge e. digits_append ds ((48 + k % 10) ∷ []) 0 (k / 10) e ∙ digits_one (k / 10) (k % 10) (omega arith) ∙ ap Some (omega arith)) n h

pub natural_is : (ds : List ℕ) (n : ℕ) → digits_from 0 ds ≡ Some n → 0 < length ds → 48 < get_or ds 0 0 → natural ds ≡ Some n
natural_is [] n e some first = absurd (omega arith)
natural_is (b ∷ []) n e some first = e
natural_is (b ∷ d ∷ ds) n e some first = rw (ne_eqb b 48 (λ same. omega arith)) e

pub natural_decimal : (n : ℕ) → 0 < n → n < 2 ^ 64 → natural (decimal n) ≡ Some n
natural_decimal n some h = natural_is (decimal n) n (decimal_value n h) (decimal_nonempty n h) (first_decimal n some h)

all_push : {X : Type 0} (P : X → Type 0) (xs : List X) (y : X) → AllByRecursion P xs → P y → AllByRecursion P (xs ++ y ∷ [])
all_push P [] y h p = (p, tt)
all_push P (x ∷ xs) y h p = (h.0, all_push P xs y h.1 p)

-- the bytes of digits
abbrev pub IsDigitByte : ℕ → Type 0
IsDigitByte b = (48 ≤ b) × (b ≤ 57)

pub decimal_digits : (n : ℕ) → n < 2 ^ 64 → AllByRecursion IsDigitByte (decimal n)
decimal_digits n h = decimal_by_steps (λ k ds. AllByRecursion IsDigitByte ds)
    (λ k lt. ((omega arith, omega arith), tt))
    (λ k ds ge e. all_push IsDigitByte ds (48 + k % 10) e (omega arith, omega arith)) n h

first_digit : (ds : List ℕ) → 0 < length ds → AllByRecursion IsDigitByte ds → (48 ≤ get_or ds 0 0) × (get_or ds 0 0 ≤ 57)
first_digit [] some h = absurd (omega arith)
first_digit (d ∷ ds) some h = h.0

-- ---- tokens of numbers

plus_small : (n : ℕ) → 1 ≤ n → n < 2 ^ 48 → number_token (Some (pos n)) ≡ Plus n
plus_small zero some small = absurd (omega arith)
plus_small (suc n) some small = grind (arith, nat_tests)

pub minus_small : (n : ℕ) → 1 ≤ n → n < 2 ^ 48 → number_token (option_and_then negated (Some n)) ≡ Minus n
minus_small zero some small = absurd (omega arith)
minus_small (suc n) some small = grind (arith, nat_tests)

pub token_decimal : (n : ℕ) → IsClauseNumber n → token_of (decimal n) ≡ Plus n
token_decimal n h =
    let small : n < 2 ^ 64 = omega (arith, h.1) in
    let first = first_digit (decimal n) (decimal_nonempty n small) (decimal_digits n small) in
    token_plus (decimal n) (λ same. omega (arith, first)) (λ _ same. omega (arith, first))
    ∙ ap (λ (o : Option ℕ). number_token (option_and_then positive o)) (natural_decimal n (omega (arith, h.0)) small)
    ∙ plus_small n h.0 h.1

pub token_negated : (n : ℕ) → IsClauseNumber n → token_of (45 ∷ decimal n) ≡ Minus n
token_negated n h =
    token_minus (decimal n)
    ∙ ap (λ (o : Option ℕ). number_token (option_and_then negated o)) (natural_decimal n (omega (arith, h.0)) (omega (arith, h.1)))
    ∙ minus_small n h.0 h.1

pub token_zero : token_of (48 ∷ []) ≡ Zero
token_zero = token_plus (48 ∷ []) (λ same. cc) (λ _ same. cc)

pub negative_token : (n : ℕ) → 1 ≤ n → literal_token (Neg n) ≡ 45 ∷ decimal n
negative_token zero some = absurd (omega arith)
negative_token (suc n) some = refl

-- ---- which words are tokens

-- a number by the case of its token
pub record PlusIs (o : Option ℤ) (n : ℕ) : Type 0 where
  pub is : o ≡ Some (pos n)
  pub counted : IsClauseNumber n

pub record MinusIs (o : Option ℤ) (n : ℕ) : Type 0 where
  pub before : ℕ
  pub is : o ≡ Some (negsuc before)
  pub size : n ≡ suc before
  pub counted : IsClauseNumber n

plus_chosen : (b : Bool) (m n : ℕ) → cond b (Plus m) LargePlus ≡ Plus n → (b ≡ true) × (m ≡ n)
plus_chosen true m n h = (refl, cc)
plus_chosen false m n h = absurd (cc)

minus_chosen : (b : Bool) (m n : ℕ) → cond b (Minus m) LargeMinus ≡ Minus n → (b ≡ true) × (m ≡ n)
minus_chosen true m n h = (refl, cc)
minus_chosen false m n h = absurd (cc)

not_plus : (b : Bool) (m n : ℕ) → cond b (Minus m) LargeMinus ≡ Plus n → ⊥
not_plus true m n h = cc
not_plus false m n h = cc

not_minus : (b : Bool) (m n : ℕ) → cond b (Plus m) LargePlus ≡ Minus n → ⊥
not_minus true m n h = cc
not_minus false m n h = cc

not_zero : (b : Bool) (m : ℕ) → cond b (Plus m) LargePlus ≡ Zero → ⊥
not_zero true m h = cc
not_zero false m h = cc

not_zero_minus : (b : Bool) (m : ℕ) → cond b (Minus m) LargeMinus ≡ Zero → ⊥
not_zero_minus true m h = cc
not_zero_minus false m h = cc

below : (m : ℕ) → nat_lt m (2 ^ 48) ≡ true → m < 2 ^ 48
below m h = grind (arith, nat_tests)

plus_is : (o : Option ℤ) (n : ℕ) → number_token o ≡ Plus n → PlusIs o n
plus_is None n h = absurd (cc)
plus_is (Some (pos zero)) n h = absurd (cc)
plus_is (Some (pos (suc m))) n h =
    let c = plus_chosen (nat_lt (suc m) (2 ^ 48)) (suc m) n h in
    let lt = below (suc m) c.0 in
    record { is = ap (λ k. Some (pos k)) c.1; counted = (omega (arith, c.1), omega (arith, c.1, lt)) }
plus_is (Some (negsuc m)) n h = absurd (not_plus (nat_lt (suc m) (2 ^ 48)) (suc m) n h)

minus_is : (o : Option ℤ) (n : ℕ) → number_token o ≡ Minus n → MinusIs o n
minus_is None n h = absurd (cc)
minus_is (Some (pos zero)) n h = absurd (cc)
minus_is (Some (pos (suc m))) n h = absurd (not_minus (nat_lt (suc m) (2 ^ 48)) (suc m) n h)
minus_is (Some (negsuc m)) n h =
    let c = minus_chosen (nat_lt (suc m) (2 ^ 48)) (suc m) n h in
    let lt = below (suc m) c.0 in
    record { before = m; is = refl; size = sym c.1; counted = (omega (arith, c.1), omega (arith, c.1, lt)) }

zero_is : (o : Option ℤ) → number_token o ≡ Zero → o ≡ Some (pos 0)
zero_is None h = absurd (cc)
zero_is (Some (pos zero)) h = refl
zero_is (Some (pos (suc m))) h = absurd (not_zero (nat_lt (suc m) (2 ^ 48)) (suc m) h)
zero_is (Some (negsuc m)) h = absurd (not_zero_minus (nat_lt (suc m) (2 ^ 48)) (suc m) h)

negated_not_pos : (o : Option ℕ) (n : ℕ) → option_and_then negated o ≡ Some (pos n) → ⊥
negated_not_pos None n h = cc
negated_not_pos (Some zero) n h = cc
negated_not_pos (Some (suc m)) n h = cc

positive_is : (o : Option ℕ) (n : ℕ) → option_and_then positive o ≡ Some (pos n) → o ≡ Some n
positive_is None n h = absurd (cc)
positive_is (Some m) n h = let same : m ≡ n = cc in ap Some same

positive_not_neg : (o : Option ℕ) (n : ℕ) → option_and_then positive o ≡ Some (negsuc n) → ⊥
positive_not_neg None n h = cc
positive_not_neg (Some m) n h = cc

negated_is : (o : Option ℕ) (n : ℕ) → option_and_then negated o ≡ Some (negsuc n) → o ≡ Some (suc n)
negated_is None n h = absurd (cc)
negated_is (Some zero) n h = absurd (cc)
negated_is (Some (suc m)) n h = let same : m ≡ n = cc in ap (λ k. Some (suc k)) same

-- a number without a minus
number_pos : (w : List ℕ) (n : ℕ) → number w ≡ Some (pos n) → natural w ≡ Some n
number_pos [] n h = absurd (cc)
number_pos (b ∷ bs) n h = by_minus (eqb b 45) h
  where
    by_minus : (t : Bool) → cond t (option_and_then negated (natural bs)) (option_and_then positive (natural (b ∷ bs))) ≡ Some (pos n) → natural (b ∷ bs) ≡ Some n
    by_minus true q = absurd (negated_not_pos (natural bs) n q)
    by_minus false q = positive_is (natural (b ∷ bs)) n q

-- a number with a minus
number_neg : (w : List ℕ) (n : ℕ) → number w ≡ Some (negsuc n) → suc n < 2 ^ 64 → w ≡ 45 ∷ decimal (suc n)
number_neg [] n h small = absurd (cc)
number_neg (b ∷ bs) n h small = by_minus (eqb b 45) refl h
  where
    is_minus : (x : ℕ) → eqb x 45 ≡ true → x ≡ 45
    is_minus x e = grind (arith, nat_tests)

    by_minus : (t : Bool) → eqb b 45 ≡ t → cond t (option_and_then negated (natural bs)) (option_and_then positive (natural (b ∷ bs))) ≡ Some (negsuc n) → b ∷ bs ≡ 45 ∷ decimal (suc n)
    by_minus true e q =
        ap (λ x. x ∷ bs) (is_minus b e) ∙ ap (λ xs. 45 ∷ xs) (natural_back bs (suc n) (negated_is (natural bs) n q) small)
    by_minus false e q = absurd (positive_not_neg (natural (b ∷ bs)) n q)

-- the letter, or not
not_letter : (w : List ℕ) (t : Token) (b : Bool) → cond b Letter (number_token (number w)) ≡ t → (t ≡ Letter → ⊥) → number_token (number w) ≡ t
not_letter w t true h ne = absurd (ne (sym h))
not_letter w t false h ne = h

pub word_plus : (w : List ℕ) (n : ℕ) → token_of w ≡ Plus n → (w ≡ decimal n) × IsClauseNumber n
unfolding token_of
word_plus w n h =
    let p = plus_is (number w) n (not_letter w (Plus n) (bytes_eq w (codes "d")) h (λ e. cc)) in
    (natural_back w n (number_pos w n p.is) (omega (arith, p.counted.1)), p.counted)

pub word_minus : (w : List ℕ) (n : ℕ) → token_of w ≡ Minus n → (w ≡ 45 ∷ decimal n) × IsClauseNumber n
unfolding token_of
word_minus w n h =
    let p = minus_is (number w) n (not_letter w (Minus n) (bytes_eq w (codes "d")) h (λ e. cc)) in
    (rw p.size (number_neg w p.before p.is (omega (arith, p.counted.1, p.size))), p.counted)

pub word_zero : (w : List ℕ) → token_of w ≡ Zero → w ≡ 48 ∷ []
unfolding token_of
word_zero w h =
    let z = zero_is (number w) (not_letter w Zero (bytes_eq w (codes "d")) h (λ e. cc)) in
    natural_back w 0 (number_pos w 0 z) (omega arith) ∙ decimal_digit 0 (omega arith)

letter_is : (w : List ℕ) (b : Bool) → cond b Letter (number_token (number w)) ≡ Letter → (number_token (number w) ≡ Letter → ⊥) → b ≡ true
letter_is w true h ne = refl
letter_is w false h ne = absurd (ne h)

number_no_letter : (o : Option ℤ) → number_token o ≡ Letter → ⊥
number_no_letter None h = cc
number_no_letter (Some (pos zero)) h = cc
number_no_letter (Some (pos (suc m))) h = by_size (nat_lt (suc m) (2 ^ 48)) h
  where
    by_size : (b : Bool) → cond b (Plus (suc m)) LargePlus ≡ Letter → ⊥
    by_size true q = cc
    by_size false q = cc
number_no_letter (Some (negsuc m)) h = by_size (nat_lt (suc m) (2 ^ 48)) h
  where
    by_size : (b : Bool) → cond b (Minus (suc m)) LargeMinus ≡ Letter → ⊥
    by_size true q = cc
    by_size false q = cc

pub word_letter : (w : List ℕ) → token_of w ≡ Letter → w ≡ 100 ∷ []
unfolding token_of
word_letter w h = (bytes_eq-Decides w (codes "d")).0 (letter_is w (bytes_eq w (codes "d")) h (number_no_letter (number w)))
