use Rattle.std.proofs.Common.{subst}
use Rattle.proof_check.specs.ProofChecks.{Reaches}
use Rattle.proof_check.proofs.StageLemmas.{nothing_first, first_is, known_fed, nothing_fed, first_fed}
use Rattle.proof_check.proofs.stage.Stage.with_piece.Goals as goal

pub returns-in_default-clause-reaches : goal.returns-in_default-clause-reaches
returns-in_default-clause-reaches c = λ F proof h.
    nothing_fed F c.args.self c.fed.result proof c.args.piece.now (nothing_first c.args.piece.now c.in_default.ensures.value) c.fed.ensures.fed h

pub returns-in_ok-begun-in-Awaiting-clause-reaches : goal.returns-in_ok-begun-in-Awaiting-clause-reaches
returns-in_ok-begun-in-Awaiting-clause-reaches c = λ F proof h.
    let first = first_is c.args.piece.now c.in-Some.first.now c.in-Some.ensures.value in
    first_fed F c.in-Awaiting.formula c.in_ok-begun-in-Awaiting.field-0 c.fed-in-Awaiting.result proof c.args.piece.now c.in-Some.first.now first.0 first.1 c.in_ok-begun-in-Awaiting.ensures c.fed-in-Awaiting.ensures.fed
    (subst (λ s. Reaches F s proof) c.in-Awaiting.is h)

pub returns-in_default-self : goal.returns-in_default-self
returns-in_default-self c = record {
  reaches = λ F proof h. known_fed F c.args.self c.fed-in_default-self.result proof c.args.piece.now c.in_default-self.not-Awaiting c.fed-in_default-self.ensures.fed h;
  short = c.fed-in_default-self.ensures.short;
}
