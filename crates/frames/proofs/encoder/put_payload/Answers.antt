use Rattle.std.proofs.Common.{ap, arith, length}
use Rattle.frames.specs.WireFormat.{payload}
use Rattle.frames.proofs.PutsLemmas.{length-literals}
use Rattle.frames.proofs.encoder.put_payload.Goals as goal

pub put_task-requires : goal.put_task-requires
put_task-requires c =
    let e = ap (λ f. length (payload f)) c.in-Task.is in
    omega (arith, c.requires, e, length-literals c.in-Task.cube)
