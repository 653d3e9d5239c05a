use Rattle.std.proofs.Common.{arith, ap, length, length-append}
use Rattle.std.specs.List.{flat_map}
use Rattle.packed_text.specs.Packed.{byte_text}
use Rattle.packed_text.proofs.PackedLemmas.{twice}
use Rattle.packed_text.proofs.text.PackedText.len.Goals as goal

pub returns : goal.returns
returns c =
    let t = c.self.inside in
    omega (arith, c.len.ensures.len, c.len-2.ensures, t.tail.ok.0, twice t.pairs c.self.invariant.0, length-append (flat_map byte_text t.pairs) t.tail.items, ap length c.self.view_is)
