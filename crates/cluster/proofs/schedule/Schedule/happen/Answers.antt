use Rattle.cluster.proofs.schedule.Schedule.happen.Goals as goal

pub returns-in-Deliver : goal.returns-in-Deliver
returns-in-Deliver c = rw (c.in-Deliver.is) c.deliver.ensures

pub returns-in-Poll : goal.returns-in-Poll
returns-in-Poll c = rw (c.in-Poll.is) c.poll.ensures

pub returns-in-Restart : goal.returns-in-Restart
returns-in-Restart c = rw (c.in-Restart.is) c.restart.ensures
