use Rattle.std.proofs.Common.{refl}
use Rattle.cluster.proofs.node.Node.extend.Goals as goal

pub returns-in-Worker : goal.returns-in-Worker
returns-in-Worker c = rw c.in-Worker.is (c.extend.new.self, c.extend.ensures, refl)

pub returns-in-Coordinator : goal.returns-in-Coordinator
returns-in-Coordinator c = rw c.in-Coordinator.is (c.extend-in-Coordinator.new.self, c.extend-in-Coordinator.ensures, refl)
