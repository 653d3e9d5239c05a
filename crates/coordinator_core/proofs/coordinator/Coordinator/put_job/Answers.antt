use Rattle.coordinator_core.proofs.InvariantLemmas.{put_is}
use Rattle.coordinator_core.proofs.coordinator.Coordinator.put_job.Goals as goal

pub invariant_of-self : goal.invariant_of-self
invariant_of-self c = (c.self.invariant.0, c.self.invariant.1, put_is _ _ _ _ _ c.self.view_is c.number.ensures.value c.requires.job c.self.invariant.2, c.self.invariant.3, c.self.invariant.4)
