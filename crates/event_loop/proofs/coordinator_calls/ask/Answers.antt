use Rattle.event_loop.proofs.Polls.{is_polled}
use Rattle.event_loop.proofs.coordinator_calls.ask.Goals as goal

pub returns-clause-frame : goal.returns-clause-frame
returns-clause-frame c = (is_polled c.args.coordinator.now c.args.worker c.poll.result c.poll.new.self c.poll.ensures.step.1).frame

pub returns-clause-after : goal.returns-clause-after
returns-clause-after c = (is_polled c.args.coordinator.now c.args.worker c.poll.result c.poll.new.self c.poll.ensures.step.1).after

pub returns-clause-err : goal.returns-clause-err
returns-clause-err c = (is_polled c.args.coordinator.now c.args.worker c.poll.result c.poll.new.self c.poll.ensures.step.1).err
