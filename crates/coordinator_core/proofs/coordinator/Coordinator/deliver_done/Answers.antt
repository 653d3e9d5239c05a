use Rattle.std.proofs.Common.{refl, ◌∙◌}
use Rattle.coordinator_core.specs.Coordinator.{DeliversDone}
use Rattle.coordinator_core.proofs.JobEvidenceLemmas.{lost_reopens}
use Rattle.coordinator_core.proofs.coordinator.Coordinator.deliver_done.Goals as goal

pub returns-in-Repeated : goal.returns-in-Repeated
returns-in-Repeated c = let s = c.in-Repeated.ensures in DeliversDone.again s.0 s.1 s.2 refl refl

pub returns-in-FirstAnswer : goal.returns-in-FirstAnswer
returns-in-FirstAnswer c = let s = c.in-FirstAnswer.ensures in DeliversDone.first s.0 s.1 s.2 (c.answer.ensures s.0 s.1 s.2)

pub returns-in-OtherIncarnation : goal.returns-in-OtherIncarnation
returns-in-OtherIncarnation c = let s = c.in-OtherIncarnation.ensures in DeliversDone.anew s.0 s.1 s.2 s.3 s.4 refl (c.lost.ensures.step ∙ lost_reopens c.args.self.now c.args.attempt.now.worker s.0 s.2.job)
