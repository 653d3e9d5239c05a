use Rattle.std.proofs.Common.{◌*◌, ◌+◌, ◌<◌, ◌∙◌, length, get_or, arith}
use Rattle.std.specs.Prelude.{bit_and}
use Rattle.std.proofs.Math.ListN.{length-set}
use Rattle.log_join.proofs.BitLemmas.{block_none, both_more, has_both, later_more, none_more, some_zero}
use Rattle.log_join.proofs.bits.keep.Goals as goal

pub loop-i-preserved : goal.loop-i-preserved
loop-i-preserved c =
    let v = c.loop-i.invariant in
    let inside : c.loop-i.i < length c.loop-i.part = omega arith in
    record {
      len = length-set c.loop-i.part c.loop-i.i (bit_and (get_or c.loop-i.part c.loop-i.i 0) (get_or c.args.words.now (c.args.block * 16 + c.loop-i.i) 0)) ∙ v.len;
      here = both_more c.loop-i.part c.args.part.now c.args.words.now (c.args.block * 16) c.loop-i.i inside v.later v.here;
      later = later_more c.loop-i.part c.args.part.now c.args.words.now (c.args.block * 16) c.loop-i.i inside v.later;
      none = none_more c.loop-i.part c.args.part.now c.args.words.now (c.args.block * 16) c.loop-i.i inside v.later c.loop-i.some v.none;
    }

pub returns-clause-both : goal.returns-clause-both
returns-clause-both c = has_both c.args.part.now c.args.words.now c.loop-i.part c.args.block (λ j low. c.loop-i.invariant.here j (omega arith))

pub returns-clause-none : goal.returns-clause-none
returns-clause-none c = λ e. block_none c.loop-i.part (λ j low. c.loop-i.invariant.none (some_zero c.loop-i.some e) j (omega arith))
