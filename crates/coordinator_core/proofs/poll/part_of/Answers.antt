use Rattle.coordinator_core.proofs.PollLemmas.{part_is}
use Rattle.coordinator_core.proofs.poll.part_of.Goals as goal

pub returns-clause-part : goal.returns-clause-part
returns-clause-part c = part_is c.args.values.now c.split_at.result.1.now c.split_at-2.result.0.now c.args.offset c.min-count.result c.split_at-2.ensures.front c.min-count.ensures c.split_at.ensures.back
