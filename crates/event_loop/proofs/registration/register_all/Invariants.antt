use Rattle.std.proofs.Common.{◌≡◌, ◌≤◌, ℕ, ◌+◌, ◌*◌}
use Rattle.event_loop.specs.Accounts.{open_at}
use Rattle.event_loop.specs.inner.Accounts.{Spends}
use Rattle.event_loop.specs.inner.Connections.{AreFresh}
use Rattle.event_loop.specs.inner.Registrations.{AreApart, NobodyMayRegister}
use Rattle.event_loop.proofs.registration.register_all.Given as goal

abbrev pub invariant-loop-place : goal.invariant-loop-place
invariant-loop-place g l = record {
  formula : l.dispatcher.coordinator.formula ≡ l.fn.dispatcher.coordinator.formula;
  fresh : AreFresh l.fn.slots → (l.dispatcher.coordinator.verdict ≡ l.fn.dispatcher.coordinator.verdict) × AreFresh l.slots;
  spends : Spends g.A.Arrivals (4038 * l.place) l.fn.links l.links;
  each : (p : ℕ) → g.A.Arrivals.refusal_count l.links p + open_at l.slots p ≤ g.A.Arrivals.refusal_count l.fn.links p + open_at l.fn.slots p;
  apart : AreApart l.fn.slots → AreApart l.slots;
  registered : NobodyMayRegister l.slots l.place;
}
