use Rattle.coordinator_core.proofs.JobEvidenceLemmas.{right_gathers, values_short}
use Rattle.coordinator_core.proofs.coordinator.Coordinator.complete_assignment.Goals as goal

pub decide-requires-clause-short : goal.decide-requires-clause-short
decide-requires-clause-short c = let w = c.requires.whole in values_short c.args.self.now.formula w.1.evidence.bytes c.in-Right.verdict c.check_assignment.ensures.formula (c.in-Right.ensures.judged w.0 w.1 w.2).0

pub returns-in-Right : goal.returns-in-Right
returns-in-Right c = let w = c.requires.whole in right_gathers c.args.self.now c.decide.new.self c.args.worker c.in-Right.verdict w.0 w.1 w.2 w.3 w.4 c.decide.ensures c.in-Right.ensures.judged
