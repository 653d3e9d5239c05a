use Rattle.std.proofs.Common.{subst}
use Rattle.evidence.specs.KeptVerdict.{IsGrown}
use Rattle.evidence.proofs.KeptVerdictLemmas.{grown_is, grown_right}
use Rattle.worker_core.proofs.AddedClausesLemmas.{begins_grown}
use Rattle.worker_core.specs.Worker.{WorkerState}
use Rattle.worker_core.proofs.worker.Worker.extend.Goals as goal

pub restart_extended-requires : goal.restart_extended-requires
restart_extended-requires c = grown_right c.in-Ok-Some.field-0 c.in-Ok-Some.grown c.in-Ok-Some.field-0-is c.in-Ok-Some.ensures.right

pub returns-in-Ok : goal.returns-in-Ok
returns-in-Ok c =
    begins_grown c.args.self.now c.args.extension.now c.args.incarnation c.in-Ok-Some.grown c.restart_extended.new.self
    (subst (λ (w : WorkerState). IsGrown w.formula c.args.extension.now w.verdict c.in-Ok-Some.grown) c.self.view_is
    (grown_is c.self.inside.formula c.args.extension.now c.self.inside.verdict c.in-Ok-Some.field-0 c.in-Ok-Some.grown c.in-Ok-Some.field-0-is c.in-Ok-Some.ensures.kept))
    c.in-Ok.ensures.ok
