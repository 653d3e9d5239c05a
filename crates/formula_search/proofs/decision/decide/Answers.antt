use Rattle.std.proofs.Common.{Some, List, ℕ, sym, subst}
use Rattle.formula_search.specs.Decisions.{Decides}
use Rattle.formula_search.proofs.StreamLemmas.{proof_left, proof_put}
use Rattle.formula_search.proofs.decision.decide.Goals as goal

pub returns-then-report-eq20 : goal.returns-then-report-eq20
returns-then-report-eq20 g c =
    let F = c.args.formula.now in
    let r = c.in-Ok.report in
    let kept = c.decide_to.new.sink in
    subst (λ (t : List ℕ). Decides F c.args.asked (record r { proof = Some t })) (sym c.into_text.ensures)
    (proof_put F c.args.asked kept.text r c.if-report-eq20.true c.in-Ok.ensures.decides)

pub returns-in-Ok : goal.returns-in-Ok
returns-in-Ok g c = proof_left c.args.formula.now c.args.asked (c.decide_to.new.sink).text c.in-Ok.report c.if-report-eq20.false c.in-Ok.ensures.decides
