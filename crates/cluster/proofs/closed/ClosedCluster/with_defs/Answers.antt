use Rattle.std.proofs.Common.{subst, sym}
use Rattle.cluster.specs.Closed.{IsReached}
use Rattle.cluster.proofs.ClosedLemmas.{new_reached}
use Rattle.cluster.proofs.closed.ClosedCluster.with_defs.Goals as goal

pub invariant_of-result : goal.invariant_of-result
invariant_of-result c =
    let begun = c.in_ok-new.ensures in
    subst IsReached (sym begun.3)
    (new_reached (record { formula = c.args.formula.now; definitions = begun.0; tree = c.args.tree; limit = c.args.limit; workers = c.args.workers }) c.args.defs
    c.vars.ensures.valid begun.1 begun.2 c.leaves.ensures.valid c.requires.inside c.requires.narrow c.requires.workers)
