use Rattle.std.proofs.Common.{ap, subst, arith, take, length-take, sym}
use Rattle.std.specs.Int.{w32, to_be_bytes}
use Rattle.frames.specs.WireFormat.{literal_bytes}
use Rattle.frames.specs.inner.Puts.{Puts}
use Rattle.frames.proofs.PutsLemmas.{length-literals, literals_more, Puts-then}
use Rattle.frames.proofs.encoder.put_literals.Goals as goal

pub put_u32-at-requires : goal.put_u32-at-requires
put_u32-at-requires c =
    omega (arith, c.requires, c.loop-literal.invariant.ends, length-literals (take c.loop-literal.literal-index c.args.literals.now), length-take c.loop-literal.literal-index c.args.literals.now)

pub loop-literal-preserved : goal.loop-literal-preserved
loop-literal-preserved c =
    let more = literals_more c.args.literals.now c.loop-literal.literal-index c.literal-item.result c.loop-literal-test.true c.literal-item.is in
    subst (λ bytes. Puts c.args.out.now c.args.at bytes c.put_u32-at.new.out c.put_u32-at.result) (sym more)
    (Puts-then _ _ (literal_bytes c.literal-item.result) c.loop-literal.invariant (ap (to_be_bytes w32) c.word.ensures) c.put_u32-at.ensures)
