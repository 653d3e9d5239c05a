use Rattle.std.proofs.Common.{arith}
use Rattle.coordinator_core.proofs.ProgressLemmas.{closed_is}
use Rattle.coordinator_core.proofs.leaf_table.LeafTable.closed.Goals as goal

pub returns : goal.returns
returns c =
    let counts = closed_is _ _ _ _ c.self.invariant in
    let len = c.len.ensures in
    let rest = c.saturating_sub.ensures in
    rw (← c.self.view_is) (omega (arith, counts, len, rest))
