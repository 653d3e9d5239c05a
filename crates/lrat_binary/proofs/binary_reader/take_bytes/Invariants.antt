use Rattle.std.proofs.Common.{length}
use Rattle.lrat_binary.specs.StepSink.{HandsOn}
use Rattle.lrat_binary.specs.PartialStep.{state_of}
use Rattle.lrat_binary.proofs.binary_reader.take_bytes.Given as goal

-- the bytes so far lead from the piece to the rest
abbrev pub invariant-loop-byte : goal.invariant-loop-byte
invariant-loop-byte g l = record {
  may : g.T.TakesSteps.may_take l.taker;
  hands : HandsOn g.T.TakesSteps.takes l.initial.taker (state_of l.initial.parts) l.piece l.taker (state_of l.parts) l.rest;
}

abbrev pub decreases-loop-byte : goal.decreases-loop-byte
decreases-loop-byte g l = length l.rest
