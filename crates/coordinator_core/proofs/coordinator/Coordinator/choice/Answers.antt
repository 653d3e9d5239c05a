use Rattle.coordinator_core.proofs.InvariantLemmas.{pairs_inside, task_leaf}
use Rattle.coordinator_core.proofs.coordinator.Coordinator.choice.Goals as goal

pub cube-requires : goal.cube-requires
cube-requires c = task_leaf _ c.args.self.now c.args.worker c.args.leaf c.self.view_is c.self.invariant.2 c.requires

pub choose-requires-clause-pairs : goal.choose-requires-clause-pairs
choose-requires-clause-pairs c = pairs_inside _ c.self.invariant.2
