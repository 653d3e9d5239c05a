use Rattle.std.proofs.Common.{◌≡◌, ◌∙◌, sym, ap, subst}
use Rattle.packed_text.specs.Packed.{BeginsWithCharacter}
use Rattle.coordinator_core.specs.declared.job_state.Fixed.{Fixed}
use Rattle.coordinator_core.specs.declared.job_state.Job.{Job}
use Rattle.coordinator_core.proofs.JobEvidenceLemmas.{no_values, same_some}
use Rattle.coordinator_core.proofs.coordinator.Coordinator.check_assignment.Goals as goal

pub returns-in-None-as_plain-clause-judged : goal.returns-in-None-as_plain-clause-judged
returns-in-None-as_plain-clause-judged c = λ j x h v are right.
    let job : j ≡ c.in-Some.job.now = same_some j c.in-Some.job.now (sym h.job ∙ c.in-Some.ensures) in
    let fixed : c.in-Some-fixed.fixed ≡ x = same_some c.in-Some-fixed.fixed x (sym c.in-Some-fixed.is ∙ ap (λ (k : Job). k.fixed) (sym job) ∙ h.fixed) in
    no_values c.args.self.now.formula x.evidence.bytes v (subst (λ (y : Fixed). BeginsWithCharacter y.evidence.bytes) fixed c.in-None-as_plain.ensures) are
