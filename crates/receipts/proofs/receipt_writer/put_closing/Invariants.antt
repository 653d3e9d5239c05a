use Rattle.std.proofs.Common.{◌≡◌, ◌++◌, take}
use Rattle.std.specs.List.{flat_map}
use Rattle.receipts.specs.Receipts.{lemma_line}
use Rattle.receipts.specs.Contents.{lemmas_in}
use Rattle.receipts.proofs.receipt_writer.put_closing.Given as goal

abbrev pub invariant-loop-lemma : goal.invariant-loop-lemma
invariant-loop-lemma l = l.out.items ≡ l.fn.out.items ++ flat_map lemma_line (take l.lemma-index (lemmas_in l.closing))
