use Rattle.std.proofs.Common.{◌*◌, ◌+◌, ◌∙◌, get_or, arith}
use Rattle.std.proofs.Math.ListN.{length-set}
use Rattle.log_join.proofs.BitLemmas.{copied_more, has_copied}
use Rattle.log_join.proofs.bits.block_of.Goals as goal

pub loop-i-preserved : goal.loop-i-preserved
loop-i-preserved c = record {
  len = length-set c.loop-i.part c.loop-i.i (get_or c.args.words.now (c.args.block * 16 + c.loop-i.i) 0) ∙ c.loop-i.invariant.len;
  copied = copied_more c.loop-i.part c.args.words.now (c.args.block * 16) c.loop-i.i (omega arith) c.loop-i.invariant.copied;
}

pub returns : goal.returns
returns c = has_copied c.args.words.now c.loop-i.part c.args.block (λ j low. c.loop-i.invariant.copied j (omega arith))
