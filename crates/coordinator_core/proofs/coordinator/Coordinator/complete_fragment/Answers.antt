use Rattle.coordinator_core.proofs.JobEvidenceLemmas.{closed_gathers}
use Rattle.coordinator_core.proofs.coordinator.Coordinator.complete_fragment.Goals as goal

pub returns-in-Ok-true : goal.returns-in-Ok-true
returns-in-Ok-true c = let w = c.requires.whole in closed_gathers c.args.self.now c.close.new.self c.args.worker c.close.result w.0 w.1 w.2 w.3 w.4 c.close.ensures
