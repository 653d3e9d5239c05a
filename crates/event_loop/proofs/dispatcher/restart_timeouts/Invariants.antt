use Rattle.std.proofs.Common.{◌≡◌, ℕ, length}
use Rattle.event_loop.specs.Accounts.{open_at}
use Rattle.event_loop.specs.inner.Registrations.{AreApart}
use Rattle.event_loop.proofs.dispatcher.restart_timeouts.Given as goal

abbrev pub invariant-loop-place : goal.invariant-loop-place
invariant-loop-place l = (length l.slots ≡ length l.fn.slots) × ((p : ℕ) → open_at l.slots p ≡ open_at l.fn.slots p)
    × (AreApart l.fn.slots → AreApart l.slots)
