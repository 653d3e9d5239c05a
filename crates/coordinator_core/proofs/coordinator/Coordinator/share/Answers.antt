use Rattle.std.proofs.Common.{◌-◌, sym, subst, ◌∙◌}
use Rattle.coordinator_core.specs.Invariant.{IsJobAt}
use Rattle.coordinator_core.proofs.JobEvidenceLemmas.{put_back}
use Rattle.coordinator_core.proofs.coordinator.Coordinator.share.Goals as goal

pub put_job-requires-clause-job : goal.put_job-requires-clause-job
put_job-requires-clause-job c = subst (IsJobAt c.take_job.new.self.leaves (c.args.worker - 1)) (sym c.share.ensures) c.in-Some.ensures.fair

pub returns-in-Some : goal.returns-in-Some
returns-in-Some c = put_back c.args.self.now c.take_job.new.self c.put_job.new.self c.args.worker c.in-Some.job c.share.new.self c.take_job.ensures.now c.put_job.ensures (sym c.in-Some.is ∙ c.take_job.ensures.job) c.share.ensures
