use Rattle.runs.proofs.Machines.{polled_formula, polled_verdict}
use Rattle.runs.proofs.local_worker.poll.Goals as goal

pub returns-clause-formula : goal.returns-clause-formula
returns-clause-formula c = polled_formula _ _ _ (c.poll.ensures.step 0)

pub returns-clause-verdict : goal.returns-clause-verdict
returns-clause-verdict c = polled_verdict _ _ _ (c.poll.ensures.step 0)
