use Rattle.std.proofs.Common.{subst}
use Rattle.proof_check.specs.ProofChecks.{HasTaken}
use Rattle.proof_check.proofs.CheckLemmas.{input_report}
use Rattle.proof_check.proofs.either_form.report_of.Goals as goal

pub returns-in-Ok : goal.returns-in-Ok
returns-in-Ok c = λ L input proof taken.
    let has = subst (λ s. HasTaken L input s proof) c.in-Ok.is taken in
    c.report.ensures L input proof has.0 has.1 has.2

pub returns-in-Err : goal.returns-in-Err
returns-in-Err c = λ L input proof taken.
    let fails = subst (λ s. HasTaken L input s proof) c.in-Err.is taken in
    input_report L input proof c.in-Err.fault c.unread.result fails c.unread.ensures.text c.unread.ensures.status c.unread.ensures.proof c.unread.ensures.memory
