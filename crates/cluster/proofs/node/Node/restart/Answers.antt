use Rattle.std.proofs.Common.{refl, ap, sym, ◌∙◌}
use Rattle.cluster.specs.OpenSchedule.{Restarts}
use Rattle.cluster.specs.declared.node.Node.TheVariants.{Coordinator}
use Rattle.cluster.proofs.node.Node.restart.Goals as goal

pub returns-in-Err : goal.returns-in-Err
returns-in-Err c = Restarts.no_memory c.in-Coordinator.coordinator c.in-Coordinator.is refl (ap Coordinator c.in-Err.ensures.err ∙ sym c.in-Coordinator.is)
