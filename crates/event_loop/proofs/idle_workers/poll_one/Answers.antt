use Rattle.std.proofs.Common.{ap}
use Rattle.event_loop.specs.declared.dispatcher.Dispatcher.{Dispatcher}
use Rattle.event_loop.proofs.RegistrationLemmas.{served}
use Rattle.event_loop.proofs.idle_workers.poll_one.Goals as goal

pub returns-clause-idle : goal.returns-clause-idle
returns-clause-idle g c =
    served c.poll_and_send-turn.result c.close_if_broken.result c.poll_and_send-turn.new.connection c.close_if_broken.new.connection c.poll_and_send-turn.new.coordinator c.close_if_broken.new.dispatcher.coordinator
    c.poll_and_send-turn.ensures.idle c.close_if_broken.ensures.closed c.close_if_broken.ensures.memory
    (λ still. ((c.close_if_broken.ensures.same still).0, ap (λ (dispatcher : Dispatcher). dispatcher.coordinator) (c.close_if_broken.ensures.same still).1))
