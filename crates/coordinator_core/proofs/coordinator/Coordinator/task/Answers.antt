use Rattle.coordinator_core.proofs.PollLemmas.{cube_is}
use Rattle.coordinator_core.proofs.coordinator.Coordinator.task.Goals as goal

pub from_slice-requires : goal.from_slice-requires
from_slice-requires c = cube_is _ c.args.self.now c.args.leaf c.cube-literals.result.now c.self.view_is c.self.invariant.2 c.requires c.cube-literals.ensures.cube
