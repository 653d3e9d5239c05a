-- Text, two characters in a byte.
use Rattle.std.proofs.Common.{◌≡◌, ◌⊎◌, inl, inr, ℕ, zero, suc, ◌+◌, ◌-◌, ◌*◌, ◌/◌, ◌%◌, ◌<◌, ◌≤◌, Bool, true, false, List, [], ◌∷◌, ◌++◌, length, get_or, set, take, drop, All, refl, sym, subst, ap, ◌∙◌, arith, append_assoc, length-append}
use Rattle.std.specs.List.{flat_map}
use Rattle.std.specs.Bool.{MatchBool}
use Rattle.std.proofs.lemmas.Bool.Decides.{nat_tests}
use Rattle.std.proofs.lemmas.Grind.{flat_map-append}
use Rattle.std.proofs.lemmas.List.{append-nil, take_more, take_more_set, drop_all, length-take-le, length-drop, take-append-drop, take-append-le, drop-append-le, drop-drop}
use Rattle.std.proofs.Math.Seq.{take-add, take-append-add, drop-append-add, drop-append_seam}
use Rattle.std.proofs.lemmas.List.Elements.{All-nil, All-cons, All-head, All-tail, All-append, All-take, All-drop}
use Rattle.std.proofs.Math.Arith.{digits_div, digits_mod}
use Rattle.packed_text.specs.Packed.{BeginsWithCharacter, half_text, byte_text}
use Rattle.packed_text.specs.inner.Packed.{IsFront, IsPair}

-- a byte of two halves stands for what both stand for
pub two_halves : (bytes : List ℕ) (x y : ℕ) → y < 16 → flat_map byte_text (bytes ++ (x * 16 + y) ∷ []) ≡ flat_map byte_text bytes ++ (half_text x ++ half_text y)
two_halves bytes x y low =
    flat_map-append byte_text bytes ((x * 16 + y) ∷ [])
    ∙ ap (λ (t : List ℕ). flat_map byte_text bytes ++ t) (append-nil (byte_text (x * 16 + y))
    ∙ ap (λ (n : ℕ). half_text n ++ half_text ((x * 16 + y) % 16)) (digits_div x low) ∙ ap (λ (n : ℕ). half_text x ++ half_text n) (digits_mod x low))

take_front : (n m : ℕ) (xs : List ℕ) → n ≤ m → take n (take m xs) ≡ take n xs
take_front zero m xs h = refl
take_front (suc n) zero xs h = absurd (omega arith)
take_front (suc n) (suc m) [] h = refl
take_front (suc n) (suc m) (x ∷ xs) h = ap (λ (ys : List ℕ). x ∷ ys) (take_front n m xs (omega arith))

-- ---- pairs
half_one : (n : ℕ) → n < 14 → length (half_text n) ≡ 1
half_one n h = grind (arith, nat_tests)

pair_two : (b : ℕ) → IsPair b → length (byte_text b) ≡ 2
pair_two b h = length-append (half_text (b / 16)) (half_text (b % 16)) ∙ omega (arith, half_one (b / 16) h.0, half_one (b % 16) h.1)

-- pairs stand for twice as many characters
pub twice : (bs : List ℕ) → All IsPair bs → length (flat_map byte_text bs) ≡ 2 * length bs
twice [] h = refl
twice (b ∷ bs) h = length-append (byte_text b) (flat_map byte_text bs) ∙ omega (arith, pair_two b (All-head IsPair b bs h), twice bs (All-tail IsPair b bs h))

pub one_more : (bs : List ℕ) (i : ℕ) → i < length bs → flat_map byte_text (take (i + 1) bs) ≡ flat_map byte_text (take i bs) ++ byte_text (get_or bs i 0)
one_more bs i lt =
    ap (flat_map byte_text) (take_more bs i 0 lt)
    ∙ flat_map-append byte_text (take i bs) (get_or bs i 0 ∷ [])
    ∙ ap (λ (t : List ℕ). flat_map byte_text (take i bs) ++ t) (append-nil (byte_text (get_or bs i 0)))

pub two_more : (xs : List ℕ) (i : ℕ) → 2 * i + 1 < length xs → take (2 * (i + 1)) xs ≡ take (2 * i) xs ++ (get_or xs (2 * i) 0 ∷ get_or xs (2 * i + 1) 0 ∷ [])
two_more xs i lt =
    let next : 2 * (i + 1) ≡ 2 * i + 1 + 1 = omega arith in
    ap (λ (n : ℕ). take n xs) next
    ∙ take_more xs (2 * i + 1) 0 lt
    ∙ ap (λ (t : List ℕ). t ++ get_or xs (2 * i + 1) 0 ∷ []) (take_more xs (2 * i) 0 (omega (arith, lt)))
    ∙ append_assoc (take (2 * i) xs) (get_or xs (2 * i) 0 ∷ []) (get_or xs (2 * i + 1) 0 ∷ [])

-- what pairs stand for, in two parts
halved : (bs : List ℕ) (k : ℕ) → flat_map byte_text bs ≡ flat_map byte_text (take k bs) ++ flat_map byte_text (drop k bs)
halved bs k = ap (flat_map byte_text) (sym (take-append-drop k bs)) ∙ flat_map-append byte_text (take k bs) (drop k bs)

front_len : (bs : List ℕ) (k : ℕ) → All IsPair bs → k ≤ length bs → length (flat_map byte_text (take k bs)) ≡ 2 * k
front_len bs k h low = twice (take k bs) (All-take IsPair k bs h) ∙ ap (λ (n : ℕ). 2 * n) (length-take-le k bs low)

-- ---- the first bytes of a text
pub first_of_tail : (bs tail : List ℕ) (count : ℕ) → All IsPair bs → 2 * length bs ≤ count → take count (flat_map byte_text bs ++ tail) ≡ flat_map byte_text bs ++ take (count - 2 * length bs) tail
first_of_tail bs tail count h low =
    let split : count ≡ length (flat_map byte_text bs) + (count - 2 * length bs) = omega (arith, low, twice bs h) in
    ap (λ (n : ℕ). take n (flat_map byte_text bs ++ tail)) split
    ∙ take-append-add (flat_map byte_text bs) tail (count - 2 * length bs)

-- the first blocks, and a front of the next one
pub first_of_blocks : (bs tail block : List ℕ) (k left : ℕ) → All IsPair bs → 2048 * k ≤ length bs → block ≡ take 2048 (drop (2048 * k) bs) → length block ≡ 2048 → left < 4096
    → take (4096 * k + left) (flat_map byte_text bs ++ tail) ≡ flat_map byte_text (take (2048 * k) bs) ++ take left (flat_map byte_text block)
first_of_blocks bs tail block k left h inside is len few =
    let A = flat_map byte_text (take (2048 * k) bs) in
    let P = flat_map byte_text block in
    let X = flat_map byte_text (drop 2048 (drop (2048 * k) bs)) ++ tail in
    let A_len : length A ≡ 4096 * k = omega (arith, front_len bs (2048 * k) h inside) in
    let pairs : All IsPair block = subst (λ (ys : List ℕ). All IsPair ys) (sym is) (All-take IsPair 2048 (drop (2048 * k) bs) (All-drop IsPair (2048 * k) bs h)) in
    let P_len : left ≤ length P = omega (arith, twice block pairs, len, few) in
    let split : flat_map byte_text bs ++ tail ≡ A ++ (P ++ X) =
    ap (λ (t : List ℕ). t ++ tail) (halved bs (2048 * k))
    ∙ append_assoc A (flat_map byte_text (drop (2048 * k) bs)) tail
    ∙ ap (λ (t : List ℕ). A ++ (t ++ tail)) (halved (drop (2048 * k) bs) 2048 ∙ ap (λ (ys : List ℕ). flat_map byte_text ys ++ flat_map byte_text (drop 2048 (drop (2048 * k) bs))) (sym is))
    ∙ ap (λ (t : List ℕ). A ++ t) (append_assoc P (flat_map byte_text (drop 2048 (drop (2048 * k) bs))) tail) in
    ap (take (4096 * k + left)) split
    ∙ ap (λ (n : ℕ). take (n + left) (A ++ (P ++ X))) (sym A_len)
    ∙ take-append-add A (P ++ X) left
    ∙ ap (λ (t : List ℕ). A ++ t) (take-append-le left P X P_len)

-- a part of the pairs more
pub part_more : (old new out xs part : List ℕ) (done few : ℕ) → out ≡ old ++ flat_map byte_text (take done xs) → new ≡ out ++ flat_map byte_text part → part ≡ take few (drop done xs)
    → new ≡ old ++ flat_map byte_text (take (done + few) xs)
part_more old new out xs part done few so more is =
    more
    ∙ ap (λ (t : List ℕ). t ++ flat_map byte_text part) so
    ∙ append_assoc old (flat_map byte_text (take done xs)) (flat_map byte_text part)
    ∙ ap (λ (ys : List ℕ). old ++ (flat_map byte_text (take done xs) ++ flat_map byte_text ys)) is
    ∙ ap (λ (t : List ℕ). old ++ t) (sym (flat_map-append byte_text (take done xs) (take few (drop done xs))) ∙ sym (ap (flat_map byte_text) (take-add done few xs)))

-- pairs stay pairs, whether a block came to them or not
pub pairs_either_way : (b : Bool) (old new block : List ℕ) → All IsPair old → All IsPair block → MatchBool b (new ≡ old ++ block) (new ≡ old) → All IsPair new
pairs_either_way true old new block h more e = subst (λ (ys : List ℕ). All IsPair ys) (sym e) (All-append IsPair old block h more)
pairs_either_way false old new block h more e = subst (λ (ys : List ℕ). All IsPair ys) (sym e) h

-- a front of a part that is a front
pub part_of_front : (part xs : List ℕ) (few : ℕ) → part ≡ take (length part) xs → few ≤ length part → take few part ≡ take few xs
part_of_front part xs few is low = ap (take few) is ∙ take_front few (length part) xs low

-- ---- a part of a text
-- what stands from a place on, where it stands in a front that is long enough, or in all
part_is : (out rest : List ℕ) (m count : ℕ) → m ≤ length out → (m + count ≤ length out) ⊎ (rest ≡ []) → take count (drop m out) ≡ take count (drop m (out ++ rest))
part_is out rest m count low (inl long) =
    sym (ap (take count) (drop-append-le m out rest low) ∙ take-append-le count (drop m out) rest (omega (arith, long, length-drop m out)))
part_is out rest m count low (inr none) = ap (λ (t : List ℕ). take count (drop m t)) (sym (append-nil out) ∙ ap (λ (t : List ℕ). out ++ t) (sym none))

pub behind_pairs : (bs tail : List ℕ) (from : ℕ) → All IsPair bs → 2 * length bs ≤ from → drop from (flat_map byte_text bs ++ tail) ≡ drop (from - 2 * length bs) tail
behind_pairs bs tail from h low =
    let split : from ≡ length (flat_map byte_text bs) + (from - 2 * length bs) = omega (arith, low, twice bs h) in
    ap (λ (n : ℕ). drop n (flat_map byte_text bs ++ tail)) split ∙ drop-append-add (flat_map byte_text bs) tail (from - 2 * length bs)

-- from a pair on
from_pair : (bs tail : List ℕ) (k : ℕ) → All IsPair bs → k ≤ length bs → drop (2 * k) (flat_map byte_text bs ++ tail) ≡ flat_map byte_text (drop k bs) ++ tail
from_pair bs tail k h low =
    ap (λ (t : List ℕ). drop (2 * k) (t ++ tail)) (halved bs k)
    ∙ ap (drop (2 * k)) (append_assoc (flat_map byte_text (take k bs)) (flat_map byte_text (drop k bs)) tail)
    ∙ ap (λ (n : ℕ). drop n (flat_map byte_text (take k bs) ++ (flat_map byte_text (drop k bs) ++ tail))) (sym (front_len bs k h low))
    ∙ drop-append_seam (flat_map byte_text (take k bs)) (flat_map byte_text (drop k bs) ++ tail)

-- a text from a place in a pair on
pub from_place : (bs tail : List ℕ) (from first : ℕ) → All IsPair bs → first ≤ length bs → 2 * first ≤ from → drop from (flat_map byte_text bs ++ tail) ≡ drop (from - 2 * first) (flat_map byte_text (drop first bs) ++ tail)
from_place bs tail from first h inside low =
    let split : 2 * first + (from - 2 * first) ≡ from = omega (arith, low) in
    sym (ap (drop (from - 2 * first)) (sym (from_pair bs tail first h inside)) ∙ drop-drop (from - 2 * first) (2 * first) (flat_map byte_text bs ++ tail) ∙ ap (λ (n : ℕ). drop n (flat_map byte_text bs ++ tail)) split)

-- the first pairs are enough
pub short_front : (bs tail : List ℕ) (few count : ℕ) → All IsPair bs → few ≤ length bs → count + 1 ≤ 2 * few → IsFront count (flat_map byte_text (take few bs)) (flat_map byte_text bs ++ tail)
short_front bs tail few count h inside enough m one =
    let S = flat_map byte_text (take few bs) in
    let rest = flat_map byte_text (drop few bs) ++ tail in
    let S_len : length S ≡ 2 * few = front_len bs few h inside in
    let low : m ≤ length S = omega (arith, S_len, enough, one) in (
      low,
      part_is S rest m count low (inl (omega (arith, S_len, enough, one)))
          ∙ ap (λ (t : List ℕ). take count (drop m t)) (sym (ap (λ (t : List ℕ). t ++ tail) (halved bs few) ∙ append_assoc S (flat_map byte_text (drop few bs)) tail)),
    )

-- all pairs, and as much of the tail as there is or is asked for
pub whole_front : (bs tail : List ℕ) (count more : ℕ) → All IsPair bs → 0 < length bs → ((more ≡ count) × (count ≤ length tail)) ⊎ (more ≡ length tail)
    → IsFront count (flat_map byte_text bs ++ take more tail) (flat_map byte_text bs ++ tail)
whole_front bs tail count more h some end m one =
    let S = flat_map byte_text bs in
    let S_len : length S ≡ 2 * length bs = twice bs h in
    let out = S ++ take more tail in
    let low : m ≤ length out = omega (arith, length-append S (take more tail), S_len, some, one) in
    let whole : out ++ drop more tail ≡ S ++ tail = append_assoc S (take more tail) (drop more tail) ∙ ap (λ (t : List ℕ). S ++ t) (take-append-drop more tail) in
    let enough : (m + count ≤ length out) ⊎ (drop more tail ≡ []) =
    elim end [
      | inl e ↦ inl (omega (arith, length-append S (take more tail), length-take-le more tail (omega (arith, e.0, e.1)), S_len, some, one, e.0))
      | inr e ↦ inr (drop_all more tail (omega (arith, e)))
    ] in
    (low, part_is out (drop more tail) m count low enough ∙ ap (λ (t : List ℕ). take count (drop m t)) whole)

-- ---- packing
pub packed_more : (pairs text : List ℕ) (i f s : ℕ) → i < length pairs → 2 * i + 1 < length text → f < 14 → s < 14 → half_text f ≡ get_or text (2 * i) 0 ∷ [] → half_text s ≡ get_or text (2 * i + 1) 0 ∷ []
    → All IsPair (take i pairs) × (flat_map byte_text (take i pairs) ≡ take (2 * i) text)
    → All IsPair (take (i + 1) (set pairs i (f * 16 + s))) × (flat_map byte_text (take (i + 1) (set pairs i (f * 16 + s))) ≡ take (2 * (i + 1)) text)
packed_more pairs text i f s inside lt few_f few_s first second so =
    let more : take (i + 1) (set pairs i (f * 16 + s)) ≡ take i pairs ++ (f * 16 + s) ∷ [] = take_more_set pairs i (f * 16 + s) inside in
    let pair : IsPair (f * 16 + s) = (omega (arith, few_f, few_s), omega (arith, few_f, few_s)) in (
      subst (λ (bs : List ℕ). All IsPair bs) (sym more) (All-append IsPair (take i pairs) ((f * 16 + s) ∷ []) so.0 (All-cons IsPair (f * 16 + s) [] pair (All-nil IsPair))),
      ap (flat_map byte_text) more
          ∙ two_halves (take i pairs) f s (omega (arith, few_s))
          ∙ ap (λ (t : List ℕ). t ++ (half_text f ++ half_text s)) so.1
          ∙ ap (λ (t : List ℕ). take (2 * i) text ++ (t ++ half_text s)) first
          ∙ ap (λ (t : List ℕ). take (2 * i) text ++ (get_or text (2 * i) 0 ∷ t)) second
          ∙ sym (two_more text i lt),
    )

-- packed text begins with a character
pub begins_packed : (bs tail : List ℕ) → All IsPair bs → 0 < length bs → BeginsWithCharacter (flat_map byte_text bs ++ tail)
begins_packed [] tail h some = absurd (omega (arith, some))
begins_packed (b ∷ bs) tail h some =
    let rest = half_text (b % 16) ++ flat_map byte_text bs in (
      b / 16,
      rest ++ tail,
      ap (λ (t : List ℕ). t ++ tail) (append_assoc (half_text (b / 16)) (half_text (b % 16)) (flat_map byte_text bs)) ∙ append_assoc (half_text (b / 16)) rest tail,
      (All-head IsPair b bs h).0,
    )
