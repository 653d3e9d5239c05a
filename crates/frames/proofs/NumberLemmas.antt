-- Integers that are read from the first bytes, and written.
use Rattle.std.proofs.Common.{◌≡◌, ℕ, ◌+◌, ◌≤◌, ◌-◌, List, [], ◌++◌, length, take, drop, ap, ◌∙◌, arith, append_assoc, length-drop}
use Rattle.std.specs.Int.{w16, w32, w64, from_be_bytes}
use Rattle.std.proofs.lemmas.List.{append-nil, drop-drop, drop_all, take_rest}
use Rattle.byteorder.specs.Endian.{big_number}
use Rattle.frames.specs.inner.Puts.{Puts}

pub number_16 : (bytes : List ℕ) → big_number 2 bytes ≡ from_be_bytes w16 bytes
number_16 bytes = omega arith

pub number_32 : (bytes : List ℕ) → big_number 4 bytes ≡ from_be_bytes w32 bytes
number_32 bytes = omega arith

pub number_64 : (bytes : List ℕ) → big_number 8 bytes ≡ from_be_bytes w64 bytes
number_64 bytes = omega arith

-- a write at the beginning of the bytes from a place on is a write at that place
pub written_at : (old : List ℕ) (at n : ℕ) (bytes new : List ℕ) → length bytes ≡ n → at + n ≤ length old → new ≡ bytes ++ drop n (take (length old - at) (drop at old))
    → Puts old at bytes (take at old ++ (new ++ drop (length old - at) (drop at old))) (at + n)
written_at old at n bytes new size fits is = record {
  fits = omega arith;
  now = ap (λ (whole : List ℕ). take at old ++ whole) (ap (λ (x : List ℕ). x ++ drop (length old - at) (drop at old)) is ∙ append_assoc bytes _ _ ∙ ap (λ (rest : List ℕ). bytes ++ rest) behind);
  ends = omega arith;
} where
  behind : drop n (take (length old - at) (drop at old)) ++ drop (length old - at) (drop at old) ≡ drop (at + length bytes) old
  behind =
      let all : take (length old - at) (drop at old) ≡ drop at old = take_rest old at in
      let none : drop (length old - at) (drop at old) ≡ [] = drop_all (length old - at) (drop at old) (omega (arith, length-drop at old)) in
      rw (all, none) (append-nil _ ∙ drop-drop n at old ∙ ap (λ (k : ℕ). drop k old) (omega arith))
