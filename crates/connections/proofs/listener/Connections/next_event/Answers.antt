use Rattle.std.proofs.Common.{refl}
use Rattle.connections.specs.inner.NextEvent.{Finds}
use Rattle.connections.proofs.listener.Connections.next_event.Goals as goal

pub returns-in-Some-clause-finds : goal.returns-in-Some-clause-finds
returns-in-Some-clause-finds g c = Finds.next c.in-Some.place c.in-Some.count refl c.in-Some.ensures.taken
