use Rattle.std.proofs.Common.{arith, inr}
use Rattle.packed_text.proofs.text.PackedText.settle.Goals as goal

pub invariant_of-self : goal.invariant_of-self
invariant_of-self c =
    let t = c.self.inside in (
      c.pack_front-done.ensures.pairs,
      inr (omega (arith, c.remove_front.ensures.capacity, c.if-len-lt-BLOCK.false, c.len.ensures, t.tail.ok)),
    )
