use Rattle.std.proofs.Common.{◌∙◌}
use Rattle.receipts.proofs.WrittenLemmas.{lines_more}
use Rattle.receipts.proofs.receipt_writer.put_closing.Goals as goal

pub loop-lemma-preserved : goal.loop-lemma-preserved
loop-lemma-preserved c =
    c.in_ok-put_lemma.ensures.ok
    ∙ lines_more c.args.out.now.items c.loop-lemma.out.items c.args.closing.now c.loop-lemma.lemma-index c.lemma-item.result c.loop-lemma-test.true c.lemma-item.is c.loop-lemma.invariant
