use Rattle.std.proofs.Common.{◌≡◌, ℕ}
use Rattle.event_loop.specs.Accounts.{open_at}
use Rattle.event_loop.specs.inner.Connections.{AreFresh}
use Rattle.event_loop.specs.inner.Registrations.{AreApart, connection_at}
use Rattle.event_loop.proofs.dispatcher.grow_to.Given as goal

abbrev pub invariant-loop : goal.invariant-loop
invariant-loop l =
    ((p : ℕ) → open_at l.slots.items p ≡ open_at l.fn.slots.items p) × (AreFresh l.fn.slots.items → AreFresh l.slots.items)
    × (AreApart l.fn.slots.items → AreApart l.slots.items)
    × ((p : ℕ) → connection_at l.slots.items p ≡ connection_at l.fn.slots.items p)
