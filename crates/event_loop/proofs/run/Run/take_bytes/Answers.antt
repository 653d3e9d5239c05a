use Rattle.std.proofs.Common.{◌∙◌, List, Option, OnOk, ap, arith, subst, sym}
use Rattle.std.proofs.lemmas.List.{with_items_is}
use Rattle.event_loop.specs.Accounts.{open_at}
use Rattle.event_loop.specs.declared.connection.Connection.{Connection}
use Rattle.event_loop.specs.inner.Deliveries.{BytesHandledAt}
use Rattle.event_loop.specs.inner.Registrations.{AreApart, connection_at}
use Rattle.event_loop.proofs.run.Run.take_bytes.Goals as goal

pub returns-clause-each : goal.returns-clause-each
returns-clause-each g c p =
    let handled = with_items_is c.args.self.now.slots c.receive_at.new.slots (omega (arith, c.receive_at.auto.slots, c.deref_mut.ensures.len)) in
    let left = ap (λ slots. open_at slots p) handled in
    let began = ap (λ slots. open_at slots p) c.deref_mut.ensures.value in
    let each = c.receive_at.ensures.each p in
    omega (arith, left, began, each)

pub returns-clause-first : goal.returns-clause-first
returns-clause-first g c none =
    let handled = with_items_is c.args.self.now.slots c.receive_at.new.slots (omega (arith, c.receive_at.auto.slots, c.deref_mut.ensures.len)) in
    let first = c.receive_at.ensures.first (c.deref_mut.ensures.value ∙ none) in
    (first.0, handled ∙ first.1)

pub returns-clause-apart : goal.returns-clause-apart
returns-clause-apart g c apart =
    let handled = with_items_is c.args.self.now.slots c.receive_at.new.slots (omega (arith, c.receive_at.auto.slots, c.deref_mut.ensures.len)) in
    subst AreApart (sym handled) (c.receive_at.ensures.apart (subst AreApart (sym c.deref_mut.ensures.value) apart))

pub returns-clause-handled : goal.returns-clause-handled
returns-clause-handled g c =
    let handled = with_items_is c.args.self.now.slots c.receive_at.new.slots (omega (arith, c.receive_at.auto.slots, c.deref_mut.ensures.len)) in
    let at = c.args.place in
    let bytes = c.args.bytes.now in
    let before = c.args.self.now.dispatcher.coordinator in
    let after = c.receive_at.new.dispatcher.coordinator in
    subst (λ (slots : List (Option Connection)). OnOk c.receive_at.result (BytesHandledAt bytes (connection_at c.args.self.now.slots.items at) (connection_at slots at) before after)) (sym handled)
    (subst (λ (slots : List (Option Connection)). OnOk c.receive_at.result (BytesHandledAt bytes (connection_at slots at) (connection_at c.receive_at.new.slots at) before after)) c.deref_mut.ensures.value
    c.receive_at.ensures.handled)

pub returns-clause-elsewhere : goal.returns-clause-elsewhere
returns-clause-elsewhere g c p other =
    let handled = with_items_is c.args.self.now.slots c.receive_at.new.slots (omega (arith, c.receive_at.auto.slots, c.deref_mut.ensures.len)) in
    let left = ap (λ slots. connection_at slots p) handled in
    let began = ap (λ slots. connection_at slots p) c.deref_mut.ensures.value in
    left ∙ (c.receive_at.ensures.elsewhere p other ∙ began)
