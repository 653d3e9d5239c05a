use Rattle.connections.proofs.SlotLemmas.{placed}
use Rattle.connections.proofs.slots.put.Goals as goal

pub returns : goal.returns
returns g c = placed c.args.slots.now c.args.place c.args.connection
