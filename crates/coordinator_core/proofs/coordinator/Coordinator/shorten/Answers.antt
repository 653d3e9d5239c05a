use Rattle.std.proofs.Common.{◌≡◌, ◌-◌, sym, ap, subst, ◌∙◌, Some}
use Rattle.coordinator_core.specs.inner.PrivateCalls.{fixed_cut_to}
use Rattle.coordinator_core.specs.Coordinator.{with_job}
use Rattle.coordinator_core.specs.Invariant.{IsJobAt}
use Rattle.coordinator_core.specs.declared.job_state.Job.{Job}
use Rattle.coordinator_core.proofs.JobEvidenceLemmas.{put_again, cut_fits, same_some}
use Rattle.coordinator_core.proofs.coordinator.Coordinator.shorten.Goals as goal

pub put_job-requires-clause-job : goal.put_job-requires-clause-job
put_job-requires-clause-job c =
    subst (IsJobAt c.take_job.new.self.leaves (c.args.worker - 1)) (sym c.shorten.ensures)
    (record { given = c.in-Some.ensures.fair.given; fits = cut_fits c.args.count c.in-Some.job.fixed c.in-Some.ensures.fair.fits })

pub returns-in-Some : goal.returns-in-Some
returns-in-Some c = λ j at.
    let same : c.in-Some.job ≡ j = same_some c.in-Some.job j (sym c.in-Some.is ∙ c.take_job.ensures.job ∙ at) in
    put_again c.args.self.now c.take_job.new.self c.put_job.new.self c.args.worker c.in-Some.job c.shorten.new.self (fixed_cut_to c.args.count c.in-Some.job.fixed) c.take_job.ensures.now c.put_job.ensures (sym c.in-Some.is ∙ c.take_job.ensures.job) c.shorten.ensures j at
    ∙ ap (λ (i : Job). with_job c.args.self.now c.args.worker (Some (record j { fixed = fixed_cut_to c.args.count i.fixed }))) same
