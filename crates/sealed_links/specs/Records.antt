-- Records: payloads with their number, their length and a tag, and what a run of bytes has of them.
use Rattle.std.specs.Prelude.{◌≡◌, ℕ, ◌+◌, ◌<◌, ◌≤◌, ◌^◌, List, [], ◌∷◌, ◌++◌, All, length, take, drop}
use Rattle.std.specs.List.{concat}
use Rattle.sealed_links.specs.Numbers.{bytes4, bytes8, number4}
use Rattle.sealed_links.specs.SipHash.{tag_of}
use Rattle.sealed_links.specs.declared.siphash.TagKey.{TagKey}

-- what stands before a payload: the record's number in eight bytes, and the payload's length in four
unfoldable pub header : ℕ → ℕ → List ℕ
header n long = bytes8 n ++ bytes4 long

-- record number n: header, payload, and the tag of both
unfoldable pub sealed : TagKey → ℕ → List ℕ → List ℕ
sealed key n payload =
    let text = header n (length payload) ++ payload in
    text ++ tag_of key text

-- the records of these payloads, numbered from n on
unfoldable pub sealed_all : TagKey → ℕ → List (List ℕ) → List ℕ
sealed_all key n [] = []
sealed_all key n (payload ∷ payloads) = sealed key n payload ++ sealed_all key (n + 1) payloads

-- payloads of at most 4,096 bytes, of records from number n on; no record has the number 2 ^ 64 - 1
pub record AreShort (n : ℕ) (payloads : List (List ℕ)) : Type 0 where
  pub short : All (λ payload. length payload ≤ 4096) payloads
  pub few : 1 ≤ length payloads → n + length payloads < 2 ^ 64

-- bytes that begin with record number n
pub record BeginsWithRecord (key : TagKey) (n : ℕ) (bytes : List ℕ) : Type 0 where
  pub payload : List ℕ
  pub rest : List ℕ
  pub short : length payload ≤ 4096
  pub few : n + 1 < 2 ^ 64
  pub bytes_are : bytes ≡ sealed key n payload ++ rest

-- bytes that begin with record number n whatever bytes follow them: never
abbrev pub IsWrong : TagKey → ℕ → List ℕ → Type 0
IsWrong key n bytes = (more : List ℕ) → BeginsWithRecord key n (bytes ++ more) → ⊥

-- the length that a header tells
unfoldable pub told_length : List ℕ → ℕ
told_length bytes = number4 (take 4 (drop 8 bytes))

-- bytes of a record that has not come whole, and of which nothing is wrong so far
pub data IsUnfinished (n : ℕ) (bytes : List ℕ) : Type 0 where
  in_header : length bytes < 12 → IsUnfinished n bytes
  in_body : 12 ≤ length bytes → take 8 bytes ≡ bytes8 n → told_length bytes ≤ 4096 → length bytes < 28 + told_length bytes → IsUnfinished n bytes

-- bytes, from record number n on: whole records, whose payloads are handed on, up to number m, and the rest
pub record AreOpened (key : TagKey) (n : ℕ) (bytes handed : List ℕ) (m : ℕ) (rest : List ℕ) : Type 0 where
  pub payloads : List (List ℕ)
  pub are_short : AreShort n payloads
  pub bytes_are : bytes ≡ sealed_all key n payloads ++ rest
  pub handed_are : handed ≡ concat payloads
  pub number_is : m ≡ n + length payloads
