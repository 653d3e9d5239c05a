use Rattle.std.proofs.Common.{◌≡◌, ◌≤◌, ℕ, ◌+◌}
use Rattle.event_loop.specs.Accounts.{open_at}
use Rattle.event_loop.specs.inner.Accounts.{Spends}
use Rattle.event_loop.specs.inner.Connections.{AreFresh}
use Rattle.event_loop.specs.inner.Registrations.{AreApart}
use Rattle.event_loop.proofs.TimeoutLemmas.{IsClearing}
use Rattle.event_loop.proofs.timeouts.close_all_overdue.Given as goal

abbrev pub invariant-loop-place : goal.invariant-loop-place
invariant-loop-place g l = record {
  formula : l.dispatcher.coordinator.formula ≡ l.fn.dispatcher.coordinator.formula;
  verdict : l.dispatcher.coordinator.verdict ≡ l.fn.dispatcher.coordinator.verdict;
  spends : Spends g.A.Arrivals 0 l.fn.links l.links;
  each : (p : ℕ) → g.A.Arrivals.refusal_count l.links p + open_at l.slots p ≤ g.A.Arrivals.refusal_count l.fn.links p + open_at l.fn.slots p;
  fresh : AreFresh l.fn.slots → AreFresh l.slots;
  apart : AreApart l.fn.slots → AreApart l.slots;
  cleared : IsClearing l.place l.fn.slots l.slots l.tick;
}
