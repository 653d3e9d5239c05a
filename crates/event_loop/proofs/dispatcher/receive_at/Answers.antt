use Rattle.std.proofs.Common.{OnOk, Option, get_or, rules, set, subst, sym, ◌<◌, length}
use Rattle.event_loop.specs.declared.connection.Connection.{Connection}
use Rattle.event_loop.specs.inner.Deliveries.{BytesHandledAt}
use Rattle.event_loop.specs.inner.Registrations.{connection_at}
use Rattle.event_loop.proofs.Places.{turned_once}
use Rattle.event_loop.proofs.RegistrationLemmas.{apart_kept, found_at, connection_here, connection_there}
use Rattle.event_loop.proofs.dispatcher.receive_at.Goals as goal

pub returns-clause-each : goal.returns-clause-each
returns-clause-each g c =
    let at : c.args.at.place < length c.args.slots.now = search rules in
    turned_once _ _ c.args.slots.now c.args.at.place c.receive.new.connection c.index-slots-at.result at c.receive.ensures.refusals.here c.receive.ensures.refusals.elsewhere

pub returns-clause-apart : goal.returns-clause-apart
returns-clause-apart g c = λ apart.
    let at : c.args.at.place < length c.args.slots.now = search rules in
    apart_kept c.args.slots.now c.args.at.place c.receive.new.connection c.index-slots-at.result at c.receive.ensures.owner apart

pub returns-clause-handled : goal.returns-clause-handled
returns-clause-handled g c =
    let at = c.args.at.place in
    let inside : at < length c.args.slots.now = search rules in
    let bytes = c.args.bytes.now in
    let before = c.args.dispatcher.now.coordinator in
    let after = c.receive.new.dispatcher.coordinator in
    subst (λ (connection : Option Connection). OnOk c.receive.result (BytesHandledAt bytes connection (connection_at (set c.args.slots.now at c.receive.new.connection) at) before after))
    (found_at c.args.slots.now at c.index-slots-at.result inside)
    (subst (λ (connection : Option Connection). OnOk c.receive.result (BytesHandledAt bytes (get_or c.args.slots.now at c.index-slots-at.result) connection before after))
    (sym (connection_here c.args.slots.now at c.receive.new.connection inside)) c.receive.ensures.handled)

pub returns-clause-elsewhere : goal.returns-clause-elsewhere
returns-clause-elsewhere g c = λ p other. connection_there c.args.slots.now c.args.at.place p c.receive.new.connection other
