use Rattle.links.proofs.LinkedLemmas.{none_linked}
use Rattle.links.proofs.coordinator_ends.CoordinatorEnds.new.Goals as goal

pub loop-preserved : goal.loop-preserved
loop-preserved g c = none_linked c.loop.ends.items c.push.new.self.items c.loop.counter c.loop.invariant (c.in_ok-push.ensures.items)
