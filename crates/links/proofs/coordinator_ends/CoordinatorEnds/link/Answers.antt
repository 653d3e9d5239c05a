use Rattle.links.proofs.LinkedLemmas.{linked_at}
use Rattle.links.proofs.coordinator_ends.CoordinatorEnds.link.Goals as goal

pub returns-clause-ok : goal.returns-clause-ok
returns-clause-ok g c = linked_at c.args.self.now.ends.items _ c.args.worker c.in-Some.place c.in-Some.ensures.place.1
