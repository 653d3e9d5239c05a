use Rattle.std.proofs.Common.{refl}
use Rattle.coordinator_core.specs.Coordinator.{ReceivesJobEvidence}
use Rattle.coordinator_core.proofs.JobEvidenceLemmas.{same_job}
use Rattle.coordinator_core.proofs.coordinator.Coordinator.check_if_complete.Goals as goal

pub returns-in-None : goal.returns-in-None
returns-in-None c = λ j x is. ReceivesJobEvidence.waits (c.in-None.ensures j x is) refl (same_job c.args.self.now c.args.worker j x is)
