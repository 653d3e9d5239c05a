use Rattle.std.proofs.Common.{subst, sym}
use Rattle.std.proofs.lemmas.Bool.{both_ways}
use Rattle.frames.specs.Answers.{answer_of}
use Rattle.evidence.specs.Evidence.{IsComplete, IsRightEvidence}
use Rattle.worker_core.specs.Worker.{IsNewVerdict}
use Rattle.worker_core.proofs.DeliveryLemmas.{verdict_holds}
use Rattle.worker_core.proofs.worker.Worker.deliver_verdict.Goals as goal

pub returns-in-Right : goal.returns-in-Right
returns-in-Right c =
    let h = c.in-Right.ensures.found in
    rw (← c.self.view_is) (verdict_holds _ c.args.session c.args.finding c.in-Right.verdict
    (subst (λ w. IsNewVerdict w c.args.session) (sym c.self.view_is) (c.is_new_verdict.ensures.0 c.if-not-is_new_verdict.false))
    (λ wrong. both_ways c.has_wrong_length.result c.if-has_wrong_length.false (c.has_wrong_length.ensures.1 wrong))
    (subst IsComplete c.new.ensures h.0)
    (subst (λ e. IsRightEvidence c.self.inside.formula (answer_of e.finding) e.bytes c.in-Right.verdict) c.new.ensures h.1))
