use Rattle.std.proofs.Common.{refl, ◌∙◌}
use Rattle.coordinator_core.specs.Coordinator.{DeliversIdle}
use Rattle.coordinator_core.proofs.JobEvidenceLemmas.{lost_reopens}
use Rattle.coordinator_core.proofs.coordinator.Coordinator.deliver_idle.Goals as goal

pub returns : goal.returns
returns c = let s = c.is_stale.ensures.0 c.if-not-is_stale.false in DeliversIdle.anew s.0 s.1 refl (c.lost.ensures.step ∙ lost_reopens c.args.self.now c.args.worker s.0 s.1.job)
