use Rattle.std.proofs.Common.{◌≡◌, ◌≤◌, ◌+◌, ◌*◌}
use Rattle.event_loop.specs.Accounts.{EachCloses, open_of}
use Rattle.event_loop.specs.inner.Registrations.{AreApart}
use Rattle.event_loop.proofs.run.Run.hand_out_rounds.Given as goal

abbrev pub invariant-loop : goal.invariant-loop
invariant-loop g l =
    (l.self.dispatcher.coordinator.formula ≡ l.fn.self.dispatcher.coordinator.formula)
    × (g.A.Arrivals.call_count l.links + 1033984 * g.A.Arrivals.arrival_count l.fn.links ≤ g.A.Arrivals.call_count l.fn.links + 1033984 * g.A.Arrivals.arrival_count l.links)
    × EachCloses (open_of l.fn.self) (open_of l.self) (g.A.Arrivals.link_count l.fn.links) (g.A.Arrivals.link_count l.links) (g.A.Arrivals.refusal_count l.fn.links) (g.A.Arrivals.refusal_count l.links)
    × (AreApart l.fn.self.slots.items → AreApart l.self.slots.items)
    × (g.A.Arrivals.arrival_count l.links ≡ g.A.Arrivals.arrival_count l.fn.links + l.counter)
    × (g.A.Arrivals.call_count l.fn.links ≤ g.A.Arrivals.call_count l.links)
