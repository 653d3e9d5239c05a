use Rattle.std.proofs.Common.{◌<◌, ◌+◌, ◌*◌, arith, ◌∙◌}
use Rattle.std.proofs.lemmas.List.{length-set}
use Rattle.packed_text.proofs.PackedLemmas.{packed_more}
use Rattle.packed_text.proofs.glyphs.pack.Goals as goal

pub loop-i-preserved : goal.loop-i-preserved
loop-i-preserved c =
    let f = c.code-first.result in
    let s = c.code-second.result in
    let i = c.loop-i.i in
    let pairs = c.loop-i.pairs in
    let both = c.greater.ensures in
    let most = c.greater-most.ensures in
    record {
      len = length-set pairs i (f * 16 + s) ∙ c.loop-i.invariant.len;
      packed = λ small.
          let few_f : f < 14 = omega (arith, both, most) in
          let few_s : s < 14 = omega (arith, both, most) in
          packed_more pairs c.args.text.now i f s (omega (arith, c.loop-i.invariant.len, c.loop-i-test.true)) (omega (arith, c.loop-i.invariant.len, c.requires, c.loop-i-test.true)) few_f few_s
          (c.code-first.ensures.text few_f) (c.code-second.ensures.text few_s) (c.loop-i.invariant.packed (omega (arith, most)));
    }
