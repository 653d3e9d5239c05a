use Rattle.std.proofs.Common.{sym, ◌-◌, ◌∙◌}
use Rattle.coordinator_core.proofs.JobEvidenceLemmas.{grown_err, grown_fair, grown_ok}
use Rattle.coordinator_core.proofs.coordinator.Coordinator.append_bytes.Goals as goal

pub put_job-requires-clause-job : goal.put_job-requires-clause-job
put_job-requires-clause-job c =
    grown_fair c.take_job.new.self.leaves (c.args.worker - 1) c.in-Some.job c.extend-grown.new.self c.extend-grown.result c.args.more.now c.extend-grown.ensures.ok c.extend-grown.ensures.err
    (λ x e. c.requires.fits c.in-Some.job x (sym c.take_job.ensures.job ∙ c.in-Some.is) e) c.in-Some.ensures.fair

pub returns-clause-ok : goal.returns-clause-ok
returns-clause-ok c = grown_ok c.args.self.now c.take_job.new.self c.put_job.new.self c.args.worker c.in-Some.job c.extend-grown.new.self c.extend-grown.result c.args.more.now c.take_job.ensures.now c.put_job.ensures (sym c.in-Some.is ∙ c.take_job.ensures.job) c.extend-grown.ensures.ok

pub returns-clause-err : goal.returns-clause-err
returns-clause-err c = grown_err c.args.self.now c.take_job.new.self c.put_job.new.self c.args.worker c.in-Some.job c.extend-grown.new.self c.extend-grown.result c.take_job.ensures.now c.put_job.ensures (sym c.in-Some.is ∙ c.take_job.ensures.job) c.extend-grown.ensures.err
