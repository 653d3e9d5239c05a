-- The receipt of a log, and the bytes of the log that a builder has read.
use Rattle.std.specs.Prelude.{◌≡◌, ◌≢◌, ◌⊎◌, ℕ, ◌+◌, ◌-◌, ◌^◌, List, [], ◌++◌, Option, Some, None, Err, min, length, Contains}
use Rattle.dimacs.specs.logic.ClauseMap.{map_of}
use Rattle.dimacs.specs.logic.Cnf.{Cnf}
use Rattle.log_join.specs.ClosedLeaves.{Numbered}
use Rattle.log_join.specs.JoinedLogs.{ClosesLeaf, live_from}
use Rattle.icnf.specs.Leaves.{Cube}
use Rattle.lrat_check.specs.Logs.{IsBegun, LogState, TakesLogLine, log_of}
use Rattle.lrat_check.specs.declared.line_checker.CheckFault.{CheckFault}
use Rattle.lrat_text.specs.Grammar.{LineSpellsWithin}
use Rattle.lrat_text.specs.Log.{IsLog, additions, log_top}
use Rattle.lrat_text.specs.Runs.{after_steps}
use Rattle.lrat_text.specs.LineSink.{HandsOn}
use Rattle.lrat_text.specs.declared.step.Step.{Step}
use Rattle.receipts.specs.ClosedLeaves.{closing_of}
use Rattle.receipts.specs.Receipts.{ReceiptContents, formula_digest}
use Rattle.receipts.specs.declared.receipt_builder.ReceiptBuilder.{ReceiptBuilder}
use Rattle.receipts.specs.Coverage.{HasTakenClauses}
use Rattle.sha2.specs.Sha256.{sha256}
use Rattle.sha2.specs.Hashers.{Holds256}

-- the lemmas of a log that are live at its end, by rising numbers
abbrev pub live_lemmas : Cnf → List Step → List Numbered
live_lemmas F log = live_from (λ n. n) (after_steps (map_of F) log) (length F.clauses + 1) (additions log)

-- the live lemmas of a log that close leaves: each closes a leaf that none of the live lemmas before it closes
abbrev pub closing_lemmas : Cnf → List Cube → List Step → List Numbered
closing_lemmas F cubes log = closing_of cubes [] (live_lemmas F log)

-- the receipt of a text: the text is a log over the formula, and closes a leaf of the tree
pub record IsReceiptOf (F : Cnf) (cubes : List Cube) (text : List ℕ) (r : ReceiptContents) : Type 0 where
  pub steps : List Step
  pub spells : LineSpellsWithin (log_top F) text steps
  pub is_log : IsLog F steps
  pub formula : r.formula ≡ formula_digest F
  pub log : r.log ≡ sha256 text
  pub lemmas : r.lemmas ≡ additions steps
  pub bytes : r.bytes ≡ min (2 ^ 64 - 1) (length text)
  pub closing : r.closing ≡ closing_lemmas F cubes steps
  pub some : r.closing ≢ []

-- the text is a log over the formula, but no lemma that is live at its end closes a leaf of the tree
pub record ClosesNone (F : Cnf) (cubes : List Cube) (text : List ℕ) : Type 0 where
  pub steps : List Step
  pub spells : LineSpellsWithin (log_top F) text steps
  pub is_log : IsLog F steps
  pub none : closing_lemmas F cubes steps ≡ []

-- ---- what a builder has read
-- formula, bytes read, the builder: the bytes are a log so far; the checker has checked their whole lines, and the builder has the bytes
-- after the last LF
pub record IsLogSoFar (F : Cnf) (bytes : List ℕ) (r : ReceiptBuilder) : Type 0 where
  pub first : LogState
  pub begun : IsBegun F first
  pub checked : HandsOn TakesLogLine first bytes r.checker r.begun
  pub hashed : Holds256 r.hasher bytes
  pub counted : r.bytes ≡ min (2 ^ 64 - 1) (length bytes)

-- formula, bytes read, fault: the fault is the first one of every text that begins with the bytes; or memory was refused
abbrev pub HasLogFault : Cnf → List ℕ → CheckFault → Type 0
HasLogFault F bytes fault = (fault.number ≡ 14) ⊎ ((more : List ℕ) → log_of F (bytes ++ more) ≡ Err fault)

-- the builder's fault, formula, bytes read, the builder: the bytes are a log so far if the builder has no fault, and else have this fault
abbrev pub IsLogOrFault : Option CheckFault → Cnf → List ℕ → ReceiptBuilder → Type 0
IsLogOrFault None F bytes r = IsLogSoFar F bytes r
IsLogOrFault (Some fault) F bytes r = HasLogFault F bytes fault

-- formula, cubes of the tree, bytes, the builder: the builder has read these bytes of a log, and its coverage has taken no clause yet
pub record HasReadLog (F : Cnf) (cubes : List Cube) (bytes : List ℕ) (r : ReceiptBuilder) : Type 0 where
  pub formula : r.formula.bytes ≡ formula_digest F
  pub covers : HasTakenClauses cubes [] r.coverage
  pub read : IsLogOrFault r.fault F bytes r

-- formula, files, cube of the leaf: one of the files is a log over the formula that closes the leaf
abbrev pub IsClosedByLog : Cnf → List (List ℕ) → Cube → Type 0
IsClosedByLog F files q = (text : List ℕ) × (steps : List Step) × Contains files text × LineSpellsWithin (log_top F) text steps × IsLog F steps × ClosesLeaf F q steps
