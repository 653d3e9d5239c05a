use Rattle.std.proofs.Common.{◌≡◌, List, [], Option, OnOk, ap, arith, refl, subst, sym}
use Rattle.std.proofs.lemmas.Result.{on_ok_weaker}
use Rattle.links.specs.Arrivals.{begun_at}
use Rattle.links.specs.declared.arrivals.Event.{Event}
use Rattle.coordinator_core.specs.Coordinator.{CoordinatorState}
use Rattle.event_loop.specs.declared.connection.Connection.{Connection}
use Rattle.event_loop.specs.inner.Deliveries.{EventHandled}
use Rattle.event_loop.specs.inner.Connections.{AreFresh}
use Rattle.event_loop.proofs.AccountLemmas.{spends_none}
use Rattle.event_loop.proofs.Runs.{at_least, on_ok_any}
use Rattle.event_loop.proofs.run.Run.handle_event.Goals as goal

-- at a place without a connection
fresh_none : (slots : List (Option Connection)) → slots ≡ [] → AreFresh slots
fresh_none slots none = subst AreFresh (sym none) tt

pub returns-in-Linked : goal.returns-in-Linked
returns-in-Linked g c = record {
  formula = c.add_connection.ensures.formula;
  spends = spends_none _ _ _;
  each = λ p.
      let begun = ap (λ event. begun_at event p) c.in-Linked.is in
      let opens = c.add_connection.ensures.opens p in
      omega (arith, begun, opens);
  first = λ none. (c.add_connection.ensures.verdict, c.add_connection.ensures.fresh (fresh_none _ none));
  apart = c.add_connection.ensures.apart;
  handled = subst (λ (e : Event). OnOk c.add_connection.result (EventHandled e c.args.room.now c.args.self.now.slots.items c.add_connection.new.self.slots.items c.args.self.now.dispatcher.coordinator c.add_connection.new.self.dispatcher.coordinator)) (sym c.in-Linked.is) (on_ok_any c.add_connection.result c.add_connection.ensures.elsewhere);
}

pub returns-in-Bytes : goal.returns-in-Bytes
returns-in-Bytes g c = record {
  formula = c.take_bytes.ensures.formula;
  spends = c.take_bytes.ensures.spends;
  each = λ p.
      let each = c.take_bytes.ensures.each p in
      omega (arith, each);
  first = λ none.
      let first = c.take_bytes.ensures.first none in
      (first.0, fresh_none _ first.1);
  apart = c.take_bytes.ensures.apart;
  handled =
      let old = c.args.self.now in
      let new = c.take_bytes.new.self in
      subst (λ (e : Event). OnOk c.take_bytes.result (EventHandled e c.args.room.now old.slots.items new.slots.items old.dispatcher.coordinator new.dispatcher.coordinator)) (sym c.in-Bytes.is)
      (on_ok_weaker c.take_bytes.result (λ is. (is, c.take_bytes.ensures.elsewhere)) c.take_bytes.ensures.handled);
}

pub returns-in-Quiet : goal.returns-in-Quiet
returns-in-Quiet g c = record {
  formula = ap (λ (k : CoordinatorState). k.formula) c.join_ahead.ensures;
  spends = spends_none _ _ _;
  each = λ p. at_least _ _;
  first = λ none. (ap (λ (k : CoordinatorState). k.verdict) c.join_ahead.ensures, fresh_none _ none);
  apart = λ apart. apart;
  handled = subst (λ (e : Event). EventHandled e c.args.room.now c.args.self.now.slots.items c.args.self.now.slots.items c.args.self.now.dispatcher.coordinator c.join_ahead.new.coordinator) (sym c.in-Quiet.is)
      (refl, c.join_ahead.ensures);
}

pub returns-in-Over : goal.returns-in-Over
returns-in-Over g c = record {
  formula = refl;
  spends = spends_none _ _ _;
  each = λ p. at_least _ _;
  first = λ none. (refl, fresh_none _ none);
  apart = λ apart. apart;
  handled = subst (λ (e : Event). EventHandled e c.args.room.now c.args.self.now.slots.items c.args.self.now.slots.items c.args.self.now.dispatcher.coordinator c.args.self.now.dispatcher.coordinator) (sym c.in-Over.is)
      (refl, refl);
}
