use Rattle.std.proofs.Common.{refl}
use Rattle.cluster.proofs.node.poll_reaction.Goals as goal

pub returns-in-Ok : goal.returns-in-Ok
returns-in-Ok c = rw (c.in-Ok.is) refl

pub returns-in-Err : goal.returns-in-Err
returns-in-Err c = rw (c.in-Err.is) refl
