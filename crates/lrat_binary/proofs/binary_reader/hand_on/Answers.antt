use Rattle.std.proofs.Common.{◌∙◌, sym, ap}
use Rattle.lrat_text.specs.Steps.{step_of}
use Rattle.lrat_binary.specs.Parser.{Ends}
use Rattle.lrat_binary.specs.PartialStep.{state_of}
use Rattle.lrat_binary.proofs.StepSinkLemmas.{hands_step, refuses_byte}
use Rattle.lrat_binary.proofs.binary_reader.hand_on.Goals as goal

pub returns-in-Ok : goal.returns-in-Ok
returns-in-Ok g c = λ begun byte e. (
  c.in-Ok.ensures.0,
  hands_step g.T.TakesSteps.takes c.args.taker.now begun byte (step_of c.step.result) c.take_step.new.self (state_of c.begin.new.self) c.args.parts.now.limit.most (e ∙ ap (Ends c.args.parts.now.limit.most) (sym c.step.ensures)) c.in-Ok.ensures.1 c.begin.ensures,
)

pub returns-in-Err : goal.returns-in-Err
returns-in-Err g c = λ begun byte e.
    refuses_byte g.T.TakesSteps.takes g.T.TakesSteps.refuses c.args.taker.now begun byte (step_of c.step.result) c.take_step.new.self c.in-Err.fault c.args.parts.now.limit.most (e ∙ ap (Ends c.args.parts.now.limit.most) (sym c.step.ensures)) c.in-Err.ensures
