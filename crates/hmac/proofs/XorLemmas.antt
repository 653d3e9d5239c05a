-- Exclusive or: of a list with one byte repeated, and that it is 0 of equal bytes alone.
use Rattle.std.proofs.Common.{◌≡◌, ℕ, suc, zero, ◌<◌, List, [], ◌∷◌, length, get_or, map, replicate, refl, ap, sym, ◌∙◌, arith}
use Rattle.std.proofs.lemmas.Grind.{same_number_lists}
use Rattle.std.proofs.lemmas.List.{get_or-map, length-map}
use Rattle.std.proofs.lemmas.Nat.{and_le_l, and_le_r, le_or_l, le_or_r}
use Rattle.std.specs.Int.Bits.{bit_or, bit_xor, xor_add_and, xor_self}
use Rattle.hmac.specs.Hmac.{xored}

pub xored-replicate : (xs : List ℕ) (n mask : ℕ) → length xs ≡ n → xored xs (replicate n mask) ≡ map (λ x. bit_xor x mask) xs
unfolding xored
xored-replicate [] n mask e = refl
xored-replicate (x ∷ xs) zero mask e = grind (arith, e)
xored-replicate (x ∷ xs) (suc n) mask e = ap (λ ys. bit_xor x mask ∷ ys) (xored-replicate xs n mask (omega (arith, e)))

-- a list of n bytes, each of which is the exclusive or of the one there with mask
pub xored_by_places : (xs ys : List ℕ) (n mask : ℕ) → length xs ≡ n → length ys ≡ n → ((k : ℕ) → k < n → get_or ys k 0 ≡ bit_xor (get_or xs k 0) mask) → ys ≡ xored xs (replicate n mask)
xored_by_places xs ys n mask long_xs long_ys each =
    let f : ℕ → ℕ = λ x. bit_xor x mask in
    same_number_lists ys (map f xs) (long_ys ∙ sym (length-map xs f ∙ long_xs)) (λ k within. each k (omega (arith, within, long_ys)) ∙ sym (get_or-map f xs k 0 0 (omega (arith, within, long_ys, long_xs))))
    ∙ sym (xored-replicate xs n mask long_xs)

-- bytes with an exclusive or of 0 are equal
pub same_from_xor : (a b : ℕ) → bit_xor a b ≡ 0 → a ≡ b
same_from_xor a b e = omega (arith, e, xor_add_and a b, and_le_l a b, and_le_r a b)

-- an or is 0 of zeros alone
pub zero_from_or_l : (a b : ℕ) → bit_or a b ≡ 0 → a ≡ 0
zero_from_or_l a b e = omega (arith, e, le_or_l a b)

pub zero_from_or_r : (a b : ℕ) → bit_or a b ≡ 0 → b ≡ 0
zero_from_or_r a b e = omega (arith, e, le_or_r a b)

pub or_xor_self : (a b c : ℕ) → a ≡ 0 → b ≡ c → bit_or a (bit_xor b c) ≡ 0
or_xor_self a b c zero_a same = rw (zero_a, same, xor_self c) refl
