-- What `receipt` tells of the files of an input, cubes and a log, and what it writes.
use Rattle.std.specs.Prelude.{◌≡◌, ◌+◌, ℕ, Bool, true, false, List, [], ◌∷◌, ◌++◌, Err, codes}
use Rattle.commands.specs.declared.receipt.ReceiptFiles.{ReceiptFiles}
use Rattle.dimacs.specs.logic.Cnf.{Cnf}
use Rattle.log_join.specs.ClosedLeaves.{Leaf, is_closed}
use Rattle.icnf.specs.Leaves.{Cube}
use Rattle.leaves.specs.Leaf.{Prints}
use Rattle.leaves.specs.LeafSearch.{closed_line}
use Rattle.lrat_check.specs.Logs.{log_of}
use Rattle.lrat_check.specs.declared.line_checker.CheckFault.{CheckFault}
use Rattle.receipts.specs.ClosedLeaves.{LeavesClosedByTexts}
use Rattle.receipts.specs.Receipts.{ReceiptContents, receipt_text}
use Rattle.receipts.specs.LogReceipt.{ClosesNone, IsReceiptOf}
use Rattle.reports.specs.Faults.{fault_text}
use Rattle.reports.specs.declared.report.Report.{Report}

-- ---- what is printed
-- the line of the leaf of this index, from 0, if the flag says that it is closed; else nothing
abbrev pub closed_at : Bool → ℕ → List ℕ
closed_at true place = closed_line (place + 1)
closed_at false place = []

-- the lines of the closed ones of these leaves, of which the first has this index, from 0
abbrev pub closed_lines : ℕ → List Leaf → List ℕ
closed_lines place [] = []
closed_lines place (k ∷ leaves) = closed_at (is_closed k) place ++ closed_lines (place + 1) leaves

-- what is printed of a log with this first fault
abbrev pub log_fault_text : CheckFault → List ℕ
log_fault_text fault = codes "c log " ++ fault_text fault.line fault.number

-- what is printed of a log that closes no leaf
abbrev pub closes_nothing_text : List ℕ
closes_nothing_text = codes "c closes nothing\n"

-- the report tells, with status 0, which leaves the receipt of this text closes, as `cover` counts them
pub record TellsClosed (F : Cnf) (cubes : List Cube) (text : List ℕ) (r : Report) : Type 0 where
  pub leaves : List Leaf
  pub are : LeavesClosedByTexts F cubes (text ∷ []) leaves
  pub prints : Prints 0 (closed_lines 0 leaves) r

-- ---- what comes of a log
-- What comes of a log. The receipt of a log over the formula that closes a leaf is kept, and then the status is 0. Of a log that closes
-- none, and of what is no log over the formula, nothing is kept: that it closes none, or the first fault, is told.
pub data TellsReceipt (keeps : List ℕ → Type 0) (left : Type 0) (F : Cnf) (cubes : List Cube) (log : List ℕ) (r : Report) : Type 0 where
  receipts : (told : ReceiptContents) → IsReceiptOf F cubes log told → keeps (receipt_text told) → TellsClosed F cubes (receipt_text told) r
      → TellsReceipt keeps left F cubes log r
  nothing : ClosesNone F cubes log → left → Prints 1 closes_nothing_text r → TellsReceipt keeps left F cubes log r
  faults : (fault : CheckFault) → log_of F log ≡ Err fault → left → Prints 1 (log_fault_text fault) r → TellsReceipt keeps left F cubes log r

-- the file of the receipt is none of the three that are read
abbrev pub IsApart : {D : Type 0} → (D → List ℕ → List ℕ → Type 0) → D → ReceiptFiles → Type 0
IsApart apart disk files = apart disk files.receipt.now files.input.now × apart disk files.receipt.now files.cubes.now × apart disk files.receipt.now files.log.now
