-- Bytes that are taken apart, and numbers.
use Rattle.std.proofs.Common.{◌≡◌, ◌≢◌, ◌==◌, ℕ, ◌-◌, ◌^◌, ◌<◌, Bool, true, false, not, bytes_eq, List, [], ◌∷◌, ◌++◌, length, length-append, take, drop, decimal, Option, Some, None, Result, Ok, Err, refl, sym, ◌∙◌, ap, subst, arith, Contains}
use Rattle.std.specs.Prelude.{MatchOption, nat_eq}
use Rattle.std.specs.List.{AllByRecursion}
use Rattle.std.specs.Str.{IsUtf8}
use Rattle.std.specs.Str.Parse.{ParsesUnsigned}
use Rattle.std.proofs.Math.Seq.{take-append_seam, drop-append_seam}
use Rattle.std.proofs.lemmas.Bool.{both_ways, eq-eqb, ne_eqb, true≢false}
use Rattle.std.proofs.lemmas.Fmt.{IsAscii-decimal, decimal_injective, parse-decimal}
use Rattle.std.proofs.lemmas.List.{take-append-drop}
use Rattle.std.proofs.lemmas.List.Elements.{All-cons, All-head, All-nil, All-tail, All-contains, Contains-append_right}
use Rattle.std.proofs.lemmas.Slice.Eq.{bytes_eq-Decides}
use Rattle.std.proofs.lemmas.Str.{IsUtf8-from_ascii}
use Rattle.dimacs.proofs.Members.{Contains-head, Contains-cons}
use Rattle.lrat_text.proofs.NumberLemmas.{IsDigitByte, decimal_digits}
use Rattle.shared_lines.specs.inner.Words.{IsWord}

-- ---- prefixes and suffixes
pub match_weaker : {A P Q : Type 0} (o : Option A) (R S : A → Type 0) → (P → Q) → ((x : A) → R x → S x) → MatchOption o P R → MatchOption o Q S
match_weaker None R S f g h = f h
match_weaker (Some x) R S f g h = g x h

pub no_front : (text front : List ℕ) → bytes_eq (take (length front) text) front ≡ false → (rest : List ℕ) → text ≢ front ++ rest
no_front text front none rest e =
    both_ways (bytes_eq (take (length front) text) front) none
    ((bytes_eq-Decides (take (length front) text) front).1 (ap (λ (x : List ℕ). take (length front) x) e ∙ take-append_seam front rest))

pub with_front : (text front rest : List ℕ) → bytes_eq (take (length front) text) front ≡ true → rest ≡ drop (length front) text → text ≡ front ++ rest
with_front text front rest same e =
    sym (take-append-drop (length front) text) ∙ ap (λ (x : List ℕ). x ++ drop (length front) text) ((bytes_eq-Decides (take (length front) text) front).0 same) ∙ ap (λ (x : List ℕ). front ++ x) (sym e)

tail_of : (rest end : List ℕ) → drop (length (rest ++ end) - length end) (rest ++ end) ≡ end
tail_of rest end =
    let n : length (rest ++ end) - length end ≡ length rest = omega (arith, length-append rest end) in
    ap (λ (k : ℕ). drop k (rest ++ end)) n ∙ drop-append_seam rest end

pub no_end : (text end : List ℕ) → bytes_eq (drop (length text - length end) text) end ≡ false → (rest : List ℕ) → text ≢ rest ++ end
no_end text end none rest e =
    both_ways (bytes_eq (drop (length text - length end) text) end) none
    ((bytes_eq-Decides (drop (length text - length end) text) end).1 (ap (λ (x : List ℕ). drop (length x - length end) x) e ∙ tail_of rest end))

pub with_end : (text end rest : List ℕ) → bytes_eq (drop (length text - length end) text) end ≡ true → rest ≡ take (length text - length end) text → text ≡ rest ++ end
with_end text end rest same e =
    sym (take-append-drop (length text - length end) text)
    ∙ ap (λ (x : List ℕ). take (length text - length end) text ++ x) ((bytes_eq-Decides (drop (length text - length end) text) end).0 same)
    ∙ ap (λ (x : List ℕ). x ++ end) (sym e)

-- ---- words
abbrev is_no_space : ℕ → Type 0
is_no_space b = (b == 32) ≡ false

pub word_none : (word : List ℕ) → IsWord word → ¬ (Contains word 32)
word_none word h i = both_ways (nat_eq 32 32) (All-contains is_no_space word 32 h i) refl

pub no_word : (text word rest : List ℕ) → IsWord text → text ≢ word ++ 32 ∷ rest
no_word text word rest h e = word_none (word ++ 32 ∷ rest) (subst IsWord e h) (Contains-append_right word (32 ∷ rest) 32 (Contains-head 32 rest))

pub word_same : (a c xs ys : List ℕ) → IsWord a → ¬ (Contains c 32) → a ++ 32 ∷ xs ≡ c ++ 32 ∷ ys → (a ≡ c) × (xs ≡ ys)
word_same [] [] xs ys h g e = (refl, (let t : xs ≡ ys = cc in t))
word_same [] (y ∷ c) xs ys h g e = absurd (g (0, omega arith, (let f : y ≡ 32 = cc in f)))
word_same (x ∷ a) [] xs ys h g e =
    let f : x ≡ 32 = cc in
    absurd (both_ways (nat_eq x 32) (All-head is_no_space x a h) (eq-eqb x 32 f))
word_same (x ∷ a) (y ∷ c) xs ys h g e =
    let first : x ≡ y = cc in
    let more : a ++ 32 ∷ xs ≡ c ++ 32 ∷ ys = cc in
    let rest = word_same a c xs ys (All-tail is_no_space x a h) (λ i. g (Contains-cons y 32 c i)) more in
    (ap (λ (n : ℕ). n ∷ a) first ∙ ap (λ (ns : List ℕ). y ∷ ns) rest.0, rest.1)

digits_word : (ds : List ℕ) → AllByRecursion IsDigitByte ds → IsWord ds
digits_word [] h = All-nil is_no_space
digits_word (d ∷ ds) h = All-cons is_no_space d ds (ne_eqb d 32 (λ same. let a = h.0.0 in omega arith)) (digits_word ds h.1)

pub decimal_is_word : (n : ℕ) → n < 2 ^ 64 → IsWord (decimal n)
decimal_is_word n low = digits_word (decimal n) (decimal_digits n low)

pub decimal_none : (n : ℕ) → n < 2 ^ 64 → ¬ (Contains (decimal n) 32)
decimal_none n low = word_none (decimal n) (decimal_is_word n low)

-- ---- numbers
-- a word that is not UTF-8 spells no number
pub number_is_text : (word : List ℕ) (n : ℕ) → n < 2 ^ 64 → word ≡ decimal n → IsUtf8 word
number_is_text word n low e = subst IsUtf8 (sym e) (IsUtf8-from_ascii (decimal n) (IsAscii-decimal n low))

pub number_is_read : {E : Type 0} (word : List ℕ) (n : ℕ) (r : Result ℕ E) → n < 2 ^ 64 → word ≡ decimal n → ParsesUnsigned 64 10 word r → r ≡ Ok n
number_is_read word n r low e h = parse-decimal 64 n word r low low e h

pub differ : (b : Bool) (x y : List ℕ) → b ≡ not (bytes_eq x y) → b ≡ true → x ≢ y
differ b x y is e same = true≢false (sym e ∙ is ∙ ap not ((bytes_eq-Decides x y).1 same))

pub no_two_ways : {T E : Type 0} (r : Result T E) (x : T) (e : E) → r ≡ Ok x → r ≡ Err e → ⊥
no_two_ways r x e p q = absurd cc

pub one_value : {T E : Type 0} (r : Result T E) (x y : T) → r ≡ Ok x → r ≡ Ok y → x ≡ y
one_value r x y p q = cc

pub same_number : (n m : ℕ) → n < 2 ^ 64 → m < 2 ^ 64 → decimal n ≡ decimal m → n ≡ m
same_number n m a b e = decimal_injective n m a b e
