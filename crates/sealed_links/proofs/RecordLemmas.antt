-- What the bytes of a record tell, and what bytes that tell something else are not.
use Rattle.std.proofs.Common.{◌≡◌, ◌≢◌, ℕ, ◌+◌, ◌<◌, ◌≤◌, ◌^◌, List, ◌++◌, length, get_or, take, drop, ap, refl, sym, ◌∙◌, append_assoc, arith}
use Rattle.std.proofs.lemmas.List.{drop-append-le, drop-take, drop_at, length-append, length-drop, length-take-le, take-append-drop, take-append-le, take-take, take_at}
use Rattle.std.proofs.lemmas.Nat.{le_bytes_4}
use Rattle.sealed_links.specs.Numbers.{bytes4, bytes8, number4}
use Rattle.sealed_links.specs.Records.{BeginsWithRecord, IsWrong, header, sealed, told_length}
use Rattle.sealed_links.specs.SipHash.{finished, tag_of}
use Rattle.sealed_links.specs.inner.Looks.{HasRecord}
use Rattle.sealed_links.specs.declared.siphash.TagKey.{TagKey}
use Rattle.sealed_links.proofs.NumberLemmas.{length-bytes4, length-bytes8, number4-bytes4, small_part}

two_words : (m n : ℕ) → length (bytes8 m ++ bytes8 n) ≡ 16
two_words m n = omega (arith, length-append (bytes8 m) (bytes8 n), length-bytes8 m, length-bytes8 n)

pub length-tag_of : (key : TagKey) (text : List ℕ) → length (tag_of key text) ≡ 16
unfolding tag_of finished
length-tag_of key text = two_words _ _

pub length-header : (n long : ℕ) → length (header n long) ≡ 12
unfolding header
length-header n long = omega (arith, length-append (bytes8 n) (bytes4 long), length-bytes8 n, length-bytes4 long)

pub length-sealed : (key : TagKey) (n : ℕ) (p : List ℕ) → length (sealed key n p) ≡ 28 + length p
unfolding sealed
length-sealed key n p =
    let text : List ℕ = header n (length p) ++ p in
    omega (arith, length-append text (tag_of key text), length-append (header n (length p)) p, length-header n (length p), length-tag_of key text)

-- a record and what follows, part by part
parts : (key : TagKey) (n : ℕ) (p rest : List ℕ) → sealed key n p ++ rest ≡ bytes8 n ++ (bytes4 (length p) ++ (p ++ (tag_of key (header n (length p) ++ p) ++ rest)))
unfolding sealed header
parts key n p rest = simp append_assoc

pub front_is : (key : TagKey) (n : ℕ) (bytes : List ℕ) → BeginsWithRecord key n bytes → take 8 bytes ≡ bytes8 n
front_is key n bytes b = ap (take 8) (b.bytes_are ∙ parts key n b.payload b.rest) ∙ take_at (bytes8 n) _ 8 (length-bytes8 n)

pub told_is : (key : TagKey) (n : ℕ) (p rest : List ℕ) → length p ≤ 4096 → told_length (sealed key n p ++ rest) ≡ length p
unfolding told_length
told_is key n p rest short =
    ap (λ ys. number4 (take 4 (drop 8 ys))) (parts key n p rest)
    ∙ ap (λ ys. number4 (take 4 ys)) (drop_at (bytes8 n) _ 8 (length-bytes8 n))
    ∙ ap number4 (take_at (bytes4 (length p)) _ 4 (length-bytes4 (length p)))
    ∙ number4-bytes4 (length p) (omega arith)

-- what a header tells does not change by what follows
pub told_length-append : (bytes more : List ℕ) → 12 ≤ length bytes → told_length (bytes ++ more) ≡ told_length bytes
unfolding told_length
told_length-append bytes more long =
    ap (λ ys. number4 (take 4 ys)) (drop-append-le 8 bytes more (omega arith))
    ∙ ap number4 (take-append-le 4 (drop 8 bytes) more (omega (arith, length-drop 8 bytes)))

pub wrong_number : (key : TagKey) (n : ℕ) (bytes : List ℕ) → 12 ≤ length bytes → take 8 bytes ≢ bytes8 n → IsWrong key n bytes
wrong_number key n bytes long other more b = other (sym (take-append-le 8 bytes more (omega arith)) ∙ front_is key n (bytes ++ more) b)

pub wrong_length : (key : TagKey) (n : ℕ) (bytes : List ℕ) (long : ℕ) → long ≡ told_length bytes → 12 ≤ length bytes → 4096 < long → IsWrong key n bytes
wrong_length key n bytes long told headed far more b =
    let same : told_length bytes ≡ length b.payload = sym (told_length-append bytes more headed) ∙ ap told_length b.bytes_are ∙ told_is key n b.payload b.rest b.short in
    omega (arith, b.short)

pub wrong_few : (key : TagKey) (n : ℕ) (bytes : List ℕ) → n + 1 ≡ 2 ^ 64 → IsWrong key n bytes
wrong_few key n bytes last more b = omega (arith, b.few)

-- what a record's text and tag are, whatever follows it
tag_right : (key : TagKey) (n : ℕ) (p rest bytes : List ℕ) (long : ℕ) → bytes ≡ sealed key n p ++ rest → long ≡ length p
    → take 16 (drop (12 + long) bytes) ≡ tag_of key (take (12 + long) bytes)
unfolding sealed
tag_right key n p rest bytes long e l =
    let text : List ℕ = header n (length p) ++ p in
    let as_long : length text ≡ 12 + long = omega (arith, length-append (header n (length p)) p, length-header n (length p)) in
    let whole : bytes ≡ text ++ (tag_of key text ++ rest) = e ∙ append_assoc text (tag_of key text) rest in
    ap (λ ys. take 16 (drop (12 + long) ys)) whole ∙ ap (take 16) (drop_at text _ (12 + long) as_long) ∙ take_at (tag_of key text) rest 16 (length-tag_of key text)
    ∙ ap (tag_of key) (sym (ap (take (12 + long)) whole ∙ take_at text _ (12 + long) as_long))

-- text and tag lie in the bytes, and are not changed by what follows
tag_within : (key : TagKey) (bytes more : List ℕ) (m : ℕ) → m + 16 ≤ length bytes → take 16 (drop m (bytes ++ more)) ≡ tag_of key (take m (bytes ++ more)) → take 16 (drop m bytes) ≡ tag_of key (take m bytes)
tag_within key bytes more m long e =
    sym (ap (take 16) (drop-append-le m bytes more (omega arith)) ∙ take-append-le 16 (drop m bytes) more (omega (arith, length-drop m bytes)))
    ∙ e ∙ ap (tag_of key) (take-append-le m bytes more (omega arith))

pub wrong_tag : (key : TagKey) (n : ℕ) (bytes : List ℕ) (long : ℕ) → long ≡ told_length bytes → 12 ≤ length bytes → 12 + long + 16 ≤ length bytes
    → take 16 (drop (12 + long) bytes) ≢ tag_of key (take (12 + long) bytes) → IsWrong key n bytes
wrong_tag key n bytes long told headed whole other more b =
    let same : long ≡ length b.payload = told ∙ sym (told_length-append bytes more headed) ∙ ap told_length b.bytes_are ∙ told_is key n b.payload b.rest b.short in
    other (tag_within key bytes more (12 + long) whole (tag_right key n b.payload b.rest (bytes ++ more) long b.bytes_are same))

bytes4-number4 : (bytes : List ℕ) → length bytes ≡ 4 → ((i : ℕ) → get_or bytes i 0 < 256) → bytes4 (number4 bytes) ≡ bytes
unfolding bytes4 number4
bytes4-number4 bytes long small = le_bytes_4 bytes _ long small refl

told_bytes : (bytes : List ℕ) → 12 ≤ length bytes → ((i : ℕ) → get_or bytes i 0 < 256) → bytes4 (told_length bytes) ≡ take 4 (drop 8 bytes)
unfolding told_length
told_bytes bytes long small =
    let four : List ℕ = take 4 (drop 8 bytes) in
    let long_four : length four ≡ 4 = length-take-le 4 (drop 8 bytes) (omega (arith, length-drop 8 bytes)) in
    bytes4-number4 four long_four (small_part 4 8 bytes small)

split_take : (n m : ℕ) (xs : List ℕ) → take (n + m) xs ≡ take n xs ++ take m (drop n xs)
split_take n m xs = sym (take-append-drop n (take (n + m) xs)) ∙ (λ i. take-take n (n + m) xs (omega arith) i ++ drop-take n m xs i)

pub record_from_tests : (key : TagKey) (n : ℕ) (bytes : List ℕ) (long : ℕ) → long ≡ told_length bytes → 12 ≤ length bytes → ((i : ℕ) → get_or bytes i 0 < 256) → n + 1 < 2 ^ 64
    → long ≤ 4096 → take 8 bytes ≡ bytes8 n → 12 + long + 16 ≤ length bytes → take 16 (drop (12 + long) bytes) ≡ tag_of key (take (12 + long) bytes) → HasRecord key n bytes long
unfolding sealed header
record_from_tests key n bytes long told headed small few short front whole tag_is =
    let p : List ℕ = take long (drop 12 bytes) in
    let long_p : length p ≡ long = length-take-le long (drop 12 bytes) (omega (arith, length-drop 12 bytes)) in
    let four : bytes4 (length p) ≡ take 4 (drop 8 bytes) = ap bytes4 (long_p ∙ told) ∙ told_bytes bytes headed small in
    let text_is : header n (length p) ++ p ≡ take (12 + long) bytes =
    (λ i. (sym front i ++ four i) ++ p) ∙ ap (λ ys. ys ++ p) (sym (split_take 8 4 bytes)) ∙ sym (split_take 12 long bytes) in
    record {
      short = short;
      few = few;
      whole = whole;
      bytes_are = split_take (12 + long) 16 bytes ∙ (λ i. sym text_is i ++ (tag_is ∙ ap (tag_of key) (sym text_is)) i);
    }

-- a record after what was there before
pub appended_record : (key : TagKey) (n : ℕ) (old p text tag : List ℕ) → text ≡ old ++ bytes8 n ++ bytes4 (length p) ++ p → tag ≡ tag_of key (drop (length old) text) → text ++ tag ≡ old ++ sealed key n p
unfolding sealed header
appended_record key n old p text tag e is =
    let whole : text ≡ old ++ (bytes8 n ++ bytes4 (length p) ++ p) = e ∙ ap (λ ys. ys ++ p) (append_assoc old (bytes8 n) (bytes4 (length p))) ∙ append_assoc old (bytes8 n ++ bytes4 (length p)) p in
    let cut : drop (length old) text ≡ bytes8 n ++ bytes4 (length p) ++ p = ap (drop (length old)) whole ∙ drop_at old _ (length old) refl in
    (λ i. whole i ++ (is ∙ ap (tag_of key) cut) i) ∙ append_assoc old _ _
