use Rattle.event_loop.proofs.Polls.{next_delivered}
use Rattle.event_loop.proofs.receiver.handle_frame.Goals as goal

pub returns-clause-delivered : goal.returns-clause-delivered
returns-clause-delivered g c = next_delivered c.poll_and_send.result _ _ _ _ _ _ c.deliver_frame.ensures.link.owner c.in_default.ensures.own c.in_default.ensures.handled c.poll_and_send.ensures.asked
