use Rattle.std.proofs.Common.{subst}
use Rattle.evidence.specs.KeptVerdict.{IsGrown}
use Rattle.evidence.proofs.KeptVerdictLemmas.{grown_is, grown_right}
use Rattle.coordinator_core.proofs.AddedClausesLemmas.{begins_grown, grown_short}
use Rattle.coordinator_core.specs.Coordinator.{CoordinatorState}
use Rattle.coordinator_core.proofs.coordinator.Coordinator.extend.Goals as goal

pub restart_extended-requires-clause-right : goal.restart_extended-requires-clause-right
restart_extended-requires-clause-right c = grown_right c.in-Ok-Some.field-0 c.in-Ok-Some.grown c.in-Ok-Some.field-0-is c.in-Ok-Some.ensures.right

pub restart_extended-requires-clause-short : goal.restart_extended-requires-clause-short
restart_extended-requires-clause-short c =
    grown_short c.self.inside.formula c.args.extension.now c.self.inside.verdict c.in-Ok-Some.grown
    (grown_is c.self.inside.formula c.args.extension.now c.self.inside.verdict c.in-Ok-Some.field-0 c.in-Ok-Some.grown c.in-Ok-Some.field-0-is c.in-Ok-Some.ensures.kept)
    (grown_right c.in-Ok-Some.field-0 c.in-Ok-Some.grown c.in-Ok-Some.field-0-is c.in-Ok-Some.ensures.right)

pub returns-in-Ok : goal.returns-in-Ok
returns-in-Ok c =
    begins_grown c.args.self.now c.args.extension.now c.args.session c.in-Ok-Some.grown c.restart_extended.new.self
    (subst (λ (d : CoordinatorState). IsGrown d.formula c.args.extension.now d.verdict c.in-Ok-Some.grown) c.self.view_is
    (grown_is c.self.inside.formula c.args.extension.now c.self.inside.verdict c.in-Ok-Some.field-0 c.in-Ok-Some.grown c.in-Ok-Some.field-0-is c.in-Ok-Some.ensures.kept))
    c.in-Ok.ensures.ok
