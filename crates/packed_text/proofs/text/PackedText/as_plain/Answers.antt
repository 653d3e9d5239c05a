use Rattle.std.proofs.Common.{subst, arith}
use Rattle.packed_text.specs.Packed.{BeginsWithCharacter}
use Rattle.packed_text.proofs.PackedLemmas.{begins_packed}
use Rattle.packed_text.proofs.text.PackedText.as_plain.Goals as goal

pub returns-then-len-gt0 : goal.returns-then-len-gt0
returns-then-len-gt0 c =
    let t = c.self.inside in
    subst BeginsWithCharacter c.self.view_is (begins_packed t.pairs t.tail.items c.self.invariant.0 (omega (arith, c.len.ensures.len, c.if-len-gt0.true)))
