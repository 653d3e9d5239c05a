use Rattle.sessions.proofs.VerdictLemmas.{no_report, reports_texts}
use Rattle.sessions.proofs.report.check_report.Goals as goal

pub returns-clause-texts : goal.returns-clause-texts
returns-clause-texts c = λ L e p h. reports_texts L e p c.args.check.now c.finish.result c.session_report.result (c.finish.ensures L e p h) c.session_report.ensures

pub returns-clause-refusal : goal.returns-clause-refusal
returns-clause-refusal c = λ L e p h. no_report L e p c.args.check.now c.finish.result c.session_report.result (c.finish.ensures L e p h) c.session_report.ensures
