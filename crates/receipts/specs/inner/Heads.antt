-- The head of a receipt as text.
use Rattle.std.specs.Prelude.{ℕ, ◌<◌, ◌^◌, List, ◌∷◌, ◌++◌, codes, decimal}
use Rattle.hex.specs.Hex.{encode_lower}
use Rattle.receipts.specs.Receipts.{IsDigest}
use Rattle.receipts.specs.declared.head.Head.{Head}

-- the five lines of a receipt's head, and then the bytes `rest`
abbrev pub headed : Head → List ℕ → List ℕ
headed h rest =
    codes "satcluster receipt 1\nformula " ++ encode_lower h.formula.bytes
    ++ codes "\nlog " ++ encode_lower h.log.bytes
    ++ codes "\nlemmas " ++ decimal h.lemmas
    ++ codes "\nbytes " ++ decimal h.bytes
    ++ codes "\n" ++ rest

-- the same text as `headed`, grouped as it is read: field after field
abbrev pub parted : Head → List ℕ → List ℕ
parted h rest =
    codes "satcluster receipt 1\nformula " ++ (encode_lower h.formula.bytes
    ++ (codes "\nlog " ++ (encode_lower h.log.bytes
    ++ (codes "\nlemmas " ++ (decimal h.lemmas ++ 10 ∷ (codes "bytes " ++ (decimal h.bytes ++ 10 ∷ rest)))))))

-- the head is within the limits: digests of 32 bytes, numbers of 64 bits
pub record IsHead (h : Head) : Type 0 where
  pub formula : IsDigest h.formula.bytes
  pub log : IsDigest h.log.bytes
  pub lemmas : h.lemmas < 2 ^ 64
  pub bytes : h.bytes < 2 ^ 64
