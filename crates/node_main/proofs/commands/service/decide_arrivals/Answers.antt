use Rattle.std.proofs.Common.{subst, sym}
use Rattle.lrat_check.specs.Verdicts.{Right}
use Rattle.lrat_check.specs.declared.verdict.Verdict.{Verdict}
use Rattle.node_main.specs.Decisions.{Decides}
use Rattle.node_main.specs.ServiceReports.{proof_in}
use Rattle.node_main.proofs.commands.service.decide_arrivals.Goals as goal

pub returns-in-Ok-reported-clause-decides : goal.returns-in-Ok-reported-clause-decides
returns-in-Ok-reported-clause-decides g c =
    let right = subst (λ (v : Verdict). Right c.args.opened.formula v) (sym c.verdict.ensures.value) c.in-Ok.ensures.right in
    subst (λ (v : Verdict). Decides c.args.opened.formula c.args.options.now (record c.in-Ok-reported.report { proof = proof_in v })) c.verdict.ensures.value
    (c.in-Ok-reported.ensures.decides c.args.opened.formula right)
