use Rattle.std.proofs.Common.{◌+◌, arith}
use Rattle.receipts.proofs.KeptLemmas.{handed_more}
use Rattle.receipts.proofs.receipt_builder.closing_in_log.Goals as goal

pub loop-number-preserved : goal.loop-number-preserved
loop-number-preserved c = λ cubes h.
    handed_more cubes c.args.checker.now.live (c.args.checker.now.base + 1) c.loop-number.number c.take_lemma.new.coverage c.take_lemma.new.closing.items
    (omega (arith, c.base-number.ensures.value, c.loop-number.auto.number)) (c.in_ok-take_lemma.ensures.handed cubes _ (c.loop-number.invariant cubes h))
