use Rattle.std.proofs.Common.{ap, length, drop, arith}
use Rattle.std.proofs.lemmas.List.{length-drop, length-take}
use Rattle.worker_core.proofs.poll.piece_at.Goals as goal

pub from_vec-requires-clause-above : goal.from_vec-requires-clause-above
from_vec-requires-clause-above c =
    let rest = drop c.args.offset c.args.bytes.now in
    omega (arith, ap length c.in_ok-piece.ensures, length-take 4000 rest, length-drop c.args.offset c.args.bytes.now, c.requires)

pub from_vec-requires-clause-below : goal.from_vec-requires-clause-below
from_vec-requires-clause-below c = omega (arith, ap length c.in_ok-piece.ensures, length-take 4000 (drop c.args.offset c.args.bytes.now))
