use Rattle.std.proofs.Common.{Option, MatchOption, subst}
use Rattle.frames.specs.Stream.{BeginsWith, BeginsNoFrame}
use Rattle.frames.specs.declared.frame.Frame.{Frame}
use Rattle.cluster.specs.OpenSchedule.{Delivers}
use Rattle.cluster.proofs.node.Node.deliver.Goals as goal

pub returns-in-Ok-Some : goal.returns-in-Ok-Some
returns-in-Ok-Some c =
    let b = c.args.bytes.now in
    Delivers.begins c.in-Ok-Some.frame
    (subst (λ (o : Option Frame). MatchOption o (BeginsNoFrame b) (BeginsWith b)) c.in-Ok-Some.field-0-is c.in-Ok-Some.ensures.first)
    c.deliver_frame.ensures
