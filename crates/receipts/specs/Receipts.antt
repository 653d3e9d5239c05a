-- The contents of a receipt, and its text.
use Rattle.std.specs.Prelude.{◌≡◌, ℕ, ◌<◌, ◌^◌, List, [], length, ◌++◌, All, codes, decimal, flat_map}
use Rattle.dimacs.specs.logic.Cnf.{Cnf}
use Rattle.dimacs.specs.text.Grammar.{spelling}
use Rattle.log_join.specs.ClosedLeaves.{Numbered}
use Rattle.hex.specs.Hex.{IsBytes, encode_lower}
use Rattle.lrat_text.specs.Grammar.{IsStep}
use Rattle.lrat_text.specs.WrittenLine.{line_of}
use Rattle.lrat_text.specs.declared.step.Step.{Step}
use Rattle.lrat_text.specs.declared.step.Step.TheVariants.{Add}
use Rattle.sha2.specs.Sha256.{sha256}

-- what a receipt says of a log: the digest of the formula's text, the digest of the log's bytes, how many lemmas and bytes the log has,
-- and the lemmas that close leaves
pub record ReceiptContents : Type 0 where
  pub formula : List ℕ
  pub log : List ℕ
  pub lemmas : ℕ
  pub bytes : ℕ
  pub closing : List Numbered

-- the digest of a formula: that of the text that is written for the formula, so that white space and comments of its file do not count
abbrev pub formula_digest : Cnf → List ℕ
formula_digest F = sha256 (spelling F)

-- a lemma as a step without hints
abbrev pub unhinted : Numbered → Step
unhinted l = Add l.id l.clause [] []

-- the line of a lemma: its number, its literals, 0, no hints, 0
abbrev pub lemma_line : Numbered → List ℕ
lemma_line l = line_of l.id (unhinted l)

-- ---- the text
-- the lines of the lemmas, and the last line, by which a truncated text is found
abbrev pub closing_text : List Numbered → List ℕ
closing_text lemmas = flat_map lemma_line lemmas ++ codes "end\n"

-- the head in five lines (version, formula, log, lemmas, bytes), each byte of a digest as two hexadecimal digits; then the lemmas
abbrev pub receipt_text : ReceiptContents → List ℕ
receipt_text r =
    codes "satcluster receipt 1\nformula " ++ encode_lower r.formula
    ++ codes "\nlog " ++ encode_lower r.log
    ++ codes "\nlemmas " ++ decimal r.lemmas
    ++ codes "\nbytes " ++ decimal r.bytes
    ++ codes "\n" ++ closing_text r.closing

-- the list is a digest: 32 bytes
pub record IsDigest (bytes : List ℕ) : Type 0 where
  pub long : length bytes ≡ 32
  pub each : IsBytes bytes

-- the contents are within the limits: digests of 32 bytes, numbers of 64 bits, and lemmas within the limits of LRAT lines
pub record IsReceipt (r : ReceiptContents) : Type 0 where
  pub formula : IsDigest r.formula
  pub log : IsDigest r.log
  pub lemmas : r.lemmas < 2 ^ 64
  pub bytes : r.bytes < 2 ^ 64
  pub closing : All (λ l. IsStep (unhinted l)) r.closing

-- the text is that of these contents, which have no other text
abbrev pub SpellsReceipt : List ℕ → ReceiptContents → Type 0
SpellsReceipt text r = IsReceipt r × (text ≡ receipt_text r)
