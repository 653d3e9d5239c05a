use Rattle.commands.proofs.OfLemmas.{both_opened_ok, of_first_ok}
use Rattle.commands.proofs.TextLemmas.{unread_as}
use Rattle.reports.specs.declared.report.Report.{Report}
use Rattle.sessions.specs.Reports.{AnswersRight, ChecksSession}
use Rattle.std.proofs.Common.{◌≡◌, List, ℕ, ◌∙◌}
use Rattle.commands.proofs.check_session.check_session_files.Goals as goal

pub returns-clause-report : goal.returns-clause-report
returns-clause-report g c = both_opened_ok (ChecksSession c.args.limits) c.check_texts.result _ _ _ _ _ _ c.of.ensures.left c.in_ok-text.ensures.bytes c.of-2.ensures.left c.in_ok-bytes.ensures.bytes c.check_texts.ensures.report

pub returns-clause-truth : goal.returns-clause-truth
returns-clause-truth g c =
    let Q : List ℕ → Report → Type 0 = λ text r. r.status ≡ 0 → AnswersRight c.args.limits text r in
    of_first_ok (ChecksSession c.args.limits) Q c.check_texts.result _ _ (λ text bytes r h. h.truth) (returns-clause-report g c)

pub returns-clause-refused : goal.returns-clause-refused
returns-clause-refused g c = unread_as _ _ _ (c.of.ensures.refusal ∙ c.in_ok-text.ensures.refusal) (c.of-2.ensures.refusal ∙ c.in_ok-bytes.ensures.refusal) c.check_texts.ensures.refused
