use Rattle.std.proofs.Common.{ap, arith, length}
use Rattle.frames.specs.WireFormat.{payload}
use Rattle.frames.proofs.PutsLemmas.{length-literals}
use Rattle.frames.proofs.encoder.payload_len.Goals as goal

pub returns-in-Task-clause-value : goal.returns-in-Task-clause-value
returns-in-Task-clause-value c =
    let e = ap (λ f. length (payload f)) c.in-Task.is in
    omega (arith, length-literals c.in-Task.cube, c.len.ensures.value, e)
