use Rattle.std.proofs.Common.{ap, length, arith}
use Rattle.packed_text.proofs.RopeLemmas.{blocks_len}
use Rattle.packed_text.proofs.rope.Rope.len.Goals as goal

pub returns-clause-len : goal.returns-clause-len
returns-clause-len c =
    let r = c.self.inside in
    omega (arith, c.len.ensures, r.blocks.ok, blocks_len (λ b. b.value.items) r.blocks.items c.self.invariant.0, ap length c.self.view_is)
