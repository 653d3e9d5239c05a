use Rattle.std.proofs.Common.{sym, subst}
use Rattle.proof_check.specs.ProofChecks.{HasTaken}
use Rattle.proof_check.proofs.CheckLemmas.{check_true}
use Rattle.proof_check.proofs.either_form.ProofCheck.finish.Goals as goal

pub returns-clause-report : goal.returns-clause-report
returns-clause-report c = λ L input proof taken. c.report_of.ensures L input proof (subst (λ s. HasTaken L input s proof) (sym c.self.view_is) taken)

pub returns-clause-truth : goal.returns-clause-truth
returns-clause-truth c = λ L input proof taken.
    check_true c.accepted_proofs_are_sound.ensures c.accepted_binary_proofs_are_sound.ensures L input proof c.report_of.result
    (c.report_of.ensures L input proof (subst (λ s. HasTaken L input s proof) (sym c.self.view_is) taken))
