use Rattle.std.proofs.Common.{sym, ◌∙◌}
use Rattle.coordinator_core.proofs.JobEvidenceLemmas.{refixed}
use Rattle.coordinator_core.proofs.coordinator.Coordinator.fix.Goals as goal

pub put_job-requires-clause-job : goal.put_job-requires-clause-job
put_job-requires-clause-job c = record { given = c.in-Some.ensures.fair.given; fits = c.requires.fits }

pub returns-in-Some : goal.returns-in-Some
returns-in-Some c = refixed c.args.self.now c.take_job.new.self c.put_job.new.self c.args.worker c.in-Some.job c.args.fixed c.take_job.ensures.now c.put_job.ensures (sym c.in-Some.is ∙ c.take_job.ensures.job)
