use Rattle.std.proofs.Common.{arith}
use Rattle.hmac.proofs.XorLemmas.{xored_by_places}
use Rattle.hmac.proofs.block.masked_block.Goals as goal

pub returns : goal.returns
returns c =
    let long = c.loop-i.invariant.0 in
    xored_by_places c.args.block.now c.loop-i.masked 64 c.args.mask c.told-block long (λ k within. c.loop-i.invariant.1 k (omega (arith, within, c.loop-i-test.false)))
