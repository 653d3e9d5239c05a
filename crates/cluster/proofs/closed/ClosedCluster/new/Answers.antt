use Rattle.coordinator_core.proofs.NewCoordinatorLemmas.{plain_inside}
use Rattle.cluster.proofs.ClosedLemmas.{plain_closed}
use Rattle.cluster.proofs.closed.ClosedCluster.new.Goals as goal

pub with_defs-requires-clause-inside : goal.with_defs-requires-clause-inside
with_defs-requires-clause-inside c = plain_inside c.args.formula.now c.args.tree c.requires.inside

pub returns : goal.returns
returns c = plain_closed c.args.formula.now c.args.tree c.args.limit c.args.workers c.with_defs.result c.with_defs.ensures
