use Rattle.coordinator_core.proofs.InvariantLemmas.{task_leaf}
use Rattle.coordinator_core.proofs.coordinator.Coordinator.may_split.Goals as goal

pub cube-requires : goal.cube-requires
cube-requires c = task_leaf _ c.args.self.now c.args.worker c.args.leaf c.self.view_is c.self.invariant.2 c.requires
