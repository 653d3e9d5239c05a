-- What a log comes to, before its receipt is written, and a list of open leaves that is gone through.
use Rattle.std.specs.Prelude.{◌≡◌, ◌⊎◌, ◌==◌, ◌+◌, ◌++◌, ℕ, Bool, false, List, [], ◌∷◌, length, drop, Err}
use Rattle.commands.specs.Receipts.{TellsClosed, closed_lines, closes_nothing_text, log_fault_text}
use Rattle.commands.specs.declared.receipt.Received.{Received}
use Rattle.commands.specs.declared.receipt.Received.TheVariants as received
use Rattle.dimacs.specs.logic.Cnf.{Cnf}
use Rattle.log_join.specs.ClosedLeaves.{Leaf, open_from}
use Rattle.icnf.specs.Leaves.{Cube}
use Rattle.leaves.specs.Leaf.{Prints}
use Rattle.lrat_check.specs.Logs.{log_of}
use Rattle.lrat_check.specs.declared.line_checker.CheckFault.{CheckFault}
use Rattle.receipts.specs.Receipts.{ReceiptContents, receipt_text}
use Rattle.receipts.specs.LogReceipt.{ClosesNone, IsReceiptOf}
use Rattle.receipts.specs.declared.fault.BuildFault.{BuildFault}
use Rattle.receipts.specs.declared.fault.BuildFault.TheVariants.{Log, ClosesNothing, NoMemory}
use Rattle.reports.specs.declared.report.Report.{Report}

-- the report tells why a log has no receipt: this fault, or that it closes nothing; want of memory has no report
abbrev pub SaysFault : BuildFault → Report → Type 0
SaysFault (Log fault) r = Prints 1 (log_fault_text fault) r
SaysFault ClosesNothing r = Prints 1 closes_nothing_text r
SaysFault NoMemory r = ⊥

-- the report tells the first fault of the log, or that it closes nothing
abbrev pub IsRefused : Cnf → List Cube → List ℕ → Report → Type 0
IsRefused F cubes log r =
    ((fault : CheckFault) × (log_of F log ≡ Err fault) × Prints 1 (log_fault_text fault) r) ⊎ (ClosesNone F cubes log × Prints 1 closes_nothing_text r)

-- what comes of a log before anything is written: the text of its receipt with the report of the leaves that it closes, or the report of
-- why it has none
abbrev pub ComesTo : Cnf → List Cube → List ℕ → Received → Type 0
ComesTo F cubes log (received.Told text r) = (told : ReceiptContents) × IsReceiptOf F cubes log told × (text.items ≡ receipt_text told) × TellsClosed F cubes (receipt_text told) r
ComesTo F cubes log (received.Refused r) = IsRefused F cubes log r

-- ---- the open places of leaves, beside those that are closed
-- the list begins with this number
abbrev pub is_first : ℕ → List ℕ → Bool
is_first place [] = false
is_first place (p ∷ places) = p == place

-- The leaves before the index `place` were gone through, and `at` of the rising indexes of open leaves (`places`) were passed. `out` is
-- `from` followed by the lines of the closed leaves among those that were gone through.
pub record IsAt (places : List ℕ) (leaves : List Leaf) (from : List ℕ) (place at : ℕ) (out : List ℕ) : Type 0 where
  pub rest : List Leaf
  pub left : drop at places ≡ open_from place rest
  pub lines : out ++ closed_lines place rest ≡ from ++ closed_lines 0 leaves
  pub many : place + length rest ≡ length leaves
