use Rattle.std.proofs.Common.{length}
use Rattle.receipts.specs.inner.LemmaLines.{HasReadLemmas}
use Rattle.receipts.specs.Contents.{lemmas_in}
use Rattle.receipts.proofs.lemma_lines.closing_in.Given as goal

abbrev pub invariant-loop-line : goal.invariant-loop-line
invariant-loop-line l = HasReadLemmas l.fn.text (lemmas_in l.lemmas.items) l.rest

abbrev pub decreases-loop-line : goal.decreases-loop-line
decreases-loop-line l = length l.rest
