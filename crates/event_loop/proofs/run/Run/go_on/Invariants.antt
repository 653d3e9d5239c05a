use Rattle.std.proofs.Common.{◌≡◌, ◌≤◌, ◌+◌, ◌*◌, false, true}
use Rattle.event_loop.specs.Accounts.{EachCloses, open_of}
use Rattle.event_loop.specs.Ending.{is_decided, is_deserted}
use Rattle.event_loop.specs.inner.Deliveries.{NobodyIdle}
use Rattle.event_loop.proofs.Runs.{Stage}
use Rattle.event_loop.specs.inner.Registrations.{AreApart}
use Rattle.event_loop.proofs.run.Run.go_on.Given as goal

abbrev pub invariant-loop : goal.invariant-loop
invariant-loop g l =
    (l.self.dispatcher.coordinator.formula ≡ l.fn.self.dispatcher.coordinator.formula)
    × (g.A.Arrivals.call_count l.links + 1033984 * g.A.Arrivals.arrival_count l.fn.links ≤ g.A.Arrivals.call_count l.fn.links + 1033984 * g.A.Arrivals.arrival_count l.links)
    × EachCloses (open_of l.fn.self) (open_of l.self) (g.A.Arrivals.link_count l.fn.links) (g.A.Arrivals.link_count l.links) (g.A.Arrivals.refusal_count l.fn.links) (g.A.Arrivals.refusal_count l.links)
    × Stage l.counter (g.A.Arrivals.call_count l.fn.links) (g.A.Arrivals.call_count l.links) l.self.slots.items l.self.dispatcher.coordinator.stuck l.self.dispatcher.coordinator.verdict
    × AreApart l.self.slots.items
    × (g.A.Arrivals.arrival_count l.links ≡ g.A.Arrivals.arrival_count l.fn.links + l.counter)
    × (is_decided l.self.dispatcher.coordinator.verdict ≡ true → NobodyIdle l.self.slots.items 255)
    × (is_deserted l.self ≡ false)
