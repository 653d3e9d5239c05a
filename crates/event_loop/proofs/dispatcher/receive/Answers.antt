use Rattle.std.proofs.Common.{OnOk, Option, ap, subst, sym}
use Rattle.event_loop.specs.declared.dispatcher.Dispatcher.{Dispatcher}
use Rattle.event_loop.specs.declared.connection.Connection.{Connection}
use Rattle.event_loop.specs.inner.Deliveries.{BytesHandledAt}
use Rattle.event_loop.proofs.Polls.{settled_handled}
use Rattle.event_loop.proofs.dispatcher.receive.Goals as goal

pub returns-clause-handled : goal.returns-clause-handled
returns-clause-handled g c =
    subst (λ (connection : Option Connection). OnOk c.close_if_broken.result (BytesHandledAt c.args.bytes.now connection c.close_if_broken.new.connection c.args.dispatcher.now.coordinator c.close_if_broken.new.dispatcher.coordinator)) (sym c.in-Some.is)
    (settled_handled c.handle_bytes-turn.result c.close_if_broken.result c.args.bytes.now c.in-Some.connection c.handle_bytes-turn.new.connection c.close_if_broken.new.connection
    c.args.dispatcher.now.coordinator c.handle_bytes-turn.new.dispatcher.coordinator c.close_if_broken.new.dispatcher.coordinator
    c.handle_bytes-turn.ensures.handled c.close_if_broken.ensures.closed c.close_if_broken.ensures.memory
    (λ still. ((c.close_if_broken.ensures.same still).0, ap (λ (dispatcher : Dispatcher). dispatcher.coordinator) (c.close_if_broken.ensures.same still).1)))
