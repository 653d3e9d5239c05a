use Rattle.std.proofs.Common.{ap, arith, length}
use Rattle.lrat_check.proofs.BlocksLemmas.{length-blocks}
use Rattle.lrat_check.proofs.blocks.Blocks.len.Goals as goal

pub returns-clause-len : goal.returns-clause-len
returns-clause-len c =
    omega (arith, c.len.ensures, c.self.inside.blocks.ok, length-blocks c.self.inside.blocks.items c.self.invariant.0, ap length c.self.view_is)
