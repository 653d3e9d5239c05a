-- Numbers as bytes: how many there are, and that they tell the number.
use Rattle.std.proofs.Common.{◌≡◌, ℕ, ◌<◌, ◌^◌, List, length, get_or, take, drop, refl, arith, ◌+◌, inl, inr}
use Rattle.std.proofs.lemmas.Bool.{cases_lt}
use Rattle.std.proofs.lemmas.List.{get_or-drop, get_or-take, get_or_past, length-take}
use Rattle.std.proofs.lemmas.Nat.{from_le_bytes-to_le_bytes_4, from_le_bytes-to_le_bytes_8, le_bytes_8}
use Rattle.sealed_links.specs.Numbers.{bytes4, bytes8, number4, number8}

pub length-bytes8 : (n : ℕ) → length (bytes8 n) ≡ 8
unfolding bytes8
length-bytes8 n = refl

pub length-bytes4 : (n : ℕ) → length (bytes4 n) ≡ 4
unfolding bytes4
length-bytes4 n = refl

pub number8-bytes8 : (n : ℕ) → n < 2 ^ 64 → number8 (bytes8 n) ≡ n
unfolding bytes8 number8
number8-bytes8 n fits = from_le_bytes-to_le_bytes_8 n fits

pub number4-bytes4 : (n : ℕ) → n < 2 ^ 32 → number4 (bytes4 n) ≡ n
unfolding bytes4 number4
number4-bytes4 n fits = from_le_bytes-to_le_bytes_4 n fits

pub bytes8-number8 : (bytes : List ℕ) → length bytes ≡ 8 → ((i : ℕ) → get_or bytes i 0 < 256) → bytes8 (number8 bytes) ≡ bytes
unfolding bytes8 number8
bytes8-number8 bytes long small = le_bytes_8 bytes _ long small refl

-- a part of bytes are bytes
pub small_part : (n m : ℕ) (xs : List ℕ) → ((i : ℕ) → get_or xs i 0 < 256) → (i : ℕ) → get_or (take n (drop m xs)) i 0 < 256
small_part n m xs small i =
    elim (cases_lt i n) [
      | inl below ↦ omega (arith, get_or-take n (drop m xs) i 0 below, get_or-drop m xs i 0, small (m + i))
      | inr past ↦ omega (arith, get_or_past (take n (drop m xs)) i 0 (omega (arith, length-take n (drop m xs))))
    ]

pub small_front : (n : ℕ) (xs : List ℕ) → ((i : ℕ) → get_or xs i 0 < 256) → (i : ℕ) → get_or (take n xs) i 0 < 256
small_front n xs small i =
    elim (cases_lt i n) [
      | inl below ↦ omega (arith, get_or-take n xs i 0 below, small i)
      | inr past ↦ omega (arith, get_or_past (take n xs) i 0 (omega (arith, length-take n xs)))
    ]
