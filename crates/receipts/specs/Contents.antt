-- A receipt in memory, as the definitions see it.
use Rattle.std.specs.Prelude.{List, map}
use Rattle.log_join.specs.ClosedLeaves.{Numbered}
use Rattle.receipts.specs.Receipts.{ReceiptContents}
use Rattle.receipts.specs.declared.lemma.ClosingLemma.{ClosingLemma}
use Rattle.receipts.specs.declared.receipt.Receipt.{Receipt}

-- a closing lemma as a numbered clause
abbrev pub lemma_of : ClosingLemma → Numbered
lemma_of l = record { id = l.id; clause = l.clause.items }

-- closing lemmas as numbered clauses
abbrev pub lemmas_in : List ClosingLemma → List Numbered
lemmas_in lemmas = map lemma_of lemmas

-- the contents of a receipt in memory
abbrev pub contents_of : Receipt → ReceiptContents
contents_of r = record { formula = r.head.formula.bytes; log = r.head.log.bytes; lemmas = r.head.lemmas; bytes = r.head.bytes; closing = lemmas_in r.closing.items }
