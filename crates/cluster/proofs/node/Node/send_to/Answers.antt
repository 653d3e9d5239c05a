use Rattle.std.proofs.Common.{refl}
use Rattle.cluster.proofs.node.Node.send_to.Goals as goal

pub returns-in-Worker : goal.returns-in-Worker
returns-in-Worker c = rw (c.in-Worker.is) (c.poll.new.self, c.poll.ensures.step c.args.number, refl)
