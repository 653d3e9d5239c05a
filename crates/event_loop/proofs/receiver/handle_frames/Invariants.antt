use Rattle.std.proofs.Common.{◌≡◌}
use Rattle.coordinator_core.specs.Coordinator.{CoordinatorState}
use Rattle.event_loop.specs.inner.Accounts.{Refuses, Spends}
use Rattle.event_loop.specs.inner.Deliveries.{AreDelivered}
use Rattle.event_loop.specs.inner.Registrations.{registered_worker}
use Rattle.event_loop.proofs.receiver.handle_frames.Given as goal

abbrev pub invariant-loop : goal.invariant-loop
invariant-loop g l = record {
  formula : l.coordinator.formula ≡ l.fn.coordinator.formula;
  spends : Spends g.A.Arrivals l.counter l.fn.links l.links;
  refusals : Refuses g.A.Arrivals l.fn.at.place 0 0 l.fn.links l.links;
  owner : registered_worker l.connection ≡ registered_worker l.fn.connection;
  reader : l.connection.reader ≡ l.fn.connection.reader;
  delivered : (new : CoordinatorState) → AreDelivered (registered_worker l.fn.connection) l.connection.waiting.items l.coordinator new
      → AreDelivered (registered_worker l.fn.connection) l.fn.connection.waiting.items l.fn.coordinator new;
}
