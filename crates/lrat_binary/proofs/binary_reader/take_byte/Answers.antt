use Rattle.lrat_binary.specs.PartialStep.{state_of}
use Rattle.lrat_binary.proofs.StepSinkLemmas.{hands_byte, breaks_byte}
use Rattle.lrat_binary.proofs.binary_reader.take_byte.Goals as goal

pub returns-in-Ok-More : goal.returns-in-Ok-More
returns-in-Ok-More g c =
    (c.requires, hands_byte g.T.TakesSteps.takes c.args.taker.now (state_of c.args.parts.now) c.args.byte (state_of c.take_byte.new.self) (rw c.in-Ok-More.field-0-is at c.in-Ok-More.ensures))

pub returns-in-Err : goal.returns-in-Err
returns-in-Err g c = breaks_byte g.T.TakesSteps.takes c.args.taker.now (state_of c.args.parts.now) c.args.byte c.in-Err.fault c.in-Err.ensures
