use Rattle.std.proofs.Common.{[], sym, refl, subst}
use Rattle.std.specs.Prelude.{IfOk}
use Rattle.lrat_check.proofs.Streams.{finished}
use Rattle.proof_check.proofs.StreamLemmas.{finished as binary_finished}
use Rattle.proof_check.specs.ProofChecks.{Reaches, IsCheckReport}
use Rattle.proof_check.proofs.FormLemmas.{form_is}
use Rattle.proof_check.proofs.CheckLemmas.{text_report, proof_report, nothing_given, binary_report}
use Rattle.proof_check.proofs.stage.Stage.report.Goals as goal

pub returns-in-Awaiting : goal.returns-in-Awaiting
returns-in-Awaiting c = λ L input proof F read taken.
    let has = subst (λ s. Reaches F s proof) c.in-Awaiting.is taken in
    let answer = c.answered.ensures in
    subst (λ bytes. IfOk c.answered.result (IsCheckReport L input bytes)) (sym has.1)
    (proof_report L input [] c.answered.result refl (text_report L input [] F _ c.answered.result read (nothing_given F) answer.text answer.status answer.proof answer.memory))

pub returns-in-Text : goal.returns-in-Text
returns-in-Text c = λ L input proof F read taken.
    let has = subst (λ s. Reaches F s proof) c.in-Text.is taken in
    let answer = c.answered-in-Text.ensures in
    proof_report L input proof c.answered-in-Text.result (form_is _ proof has.0)
    (text_report L input proof F c.finish.result c.answered-in-Text.result read (finished F c.in-Text.stream proof c.finish.result has.1 c.finish.ensures) answer.text answer.status answer.proof answer.memory)

pub returns-in-Binary : goal.returns-in-Binary
returns-in-Binary c = λ L input proof F read taken.
    let has = subst (λ s. Reaches F s proof) c.in-Binary.is taken in
    let answer = c.answered_binary.ensures in
    binary_report L input proof F c.finish-in-Binary.result c.answered_binary.result read (form_is _ proof has.0)
    (binary_finished F c.in-Binary.stream proof c.finish-in-Binary.result has.1 c.finish-in-Binary.ensures) answer.text answer.status answer.proof answer.memory
