use Rattle.std.proofs.Common.{sym, subst}
use Rattle.frames.specs.declared.answer.Ending.{Ending}
use Rattle.coordinator_core.specs.Coordinator.{DeliversFirstDone}
use Rattle.coordinator_core.proofs.coordinator.Coordinator.answer.Goals as goal

pub returns-in-Decided : goal.returns-in-Decided
returns-in-Decided c = λ j awaited none. subst (λ (o : Ending). DeliversFirstDone c.args.self.now c.args.attempt.now j o c.answer_decided.result c.answer_decided.new.self) (sym c.in-Decided.is) (c.answer_decided.ensures j awaited none)

pub returns-in-Limit : goal.returns-in-Limit
returns-in-Limit c = λ j awaited none. DeliversFirstDone.limited c.in-Limit.is (c.deliver_limit.ensures j awaited.job)
