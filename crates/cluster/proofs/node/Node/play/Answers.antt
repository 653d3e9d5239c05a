use Rattle.cluster.proofs.node.Node.play.Goals as goal

pub returns-in-Deliver : goal.returns-in-Deliver
returns-in-Deliver c = rw (c.in-Deliver.is, ← c.as_slice.ensures) c.deliver.ensures

pub returns-in-Poll : goal.returns-in-Poll
returns-in-Poll c = rw (c.in-Poll.is) c.poll.ensures

pub returns-in-Restart : goal.returns-in-Restart
returns-in-Restart c = rw (c.in-Restart.is) c.restart.ensures
