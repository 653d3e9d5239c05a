-- Timeouts of connections, in ticks, and the last tick at which a connection was open.
use Rattle.std.specs.Prelude.{◌≡◌, ◌<◌, ℕ, ◌-◌, nat_le, Bool, true, false, List, Option, Some, None, is_some}
use Rattle.std.specs.List.{list_any}
use Rattle.event_loop.specs.declared.connection.Connection.{Connection}
use Rattle.event_loop.specs.declared.connection.State.{State}
use Rattle.event_loop.specs.declared.connection.State.TheVariants.{Handshake, Queued, Idle, Pending, Working}
use Rattle.event_loop.specs.inner.Registrations.{connection_at, idle_in}

-- `timeout_by state patience is_other_idle`: the timeout of a connection by its state: 30 ticks for a handshake, for a queued worker and
-- for a pending reply; that of its task, `patience`, while another worker is idle; else none
abbrev pub timeout_by : State → Option ℕ → Bool → Option ℕ
timeout_by Handshake patience is_other_idle = Some 30
timeout_by Queued patience is_other_idle = Some 30
timeout_by Idle patience is_other_idle = None
timeout_by Pending patience is_other_idle = Some 30
timeout_by Working patience true = patience
timeout_by Working patience false = None

-- `since_by state since tick`: the tick at which the timeout begins if the worker is told something at `tick`: a timeout that runs already,
-- from `since` on, goes on
abbrev pub since_by : State → ℕ → ℕ → ℕ
since_by Handshake since tick = tick
since_by Queued since tick = tick
since_by Idle since tick = tick
since_by Pending since tick = since
since_by Working since tick = since

-- `timeout_start connection tick`: the tick at which the connection's timeout begins if its worker is told something at `tick`
abbrev pub timeout_start : Connection → ℕ → ℕ
timeout_start connection tick = since_by connection.state connection.since tick

-- `is_past timeout quiet`: there is a timeout, and `quiet` ticks are at least as many
abbrev pub is_past : Option ℕ → ℕ → Bool
is_past None quiet = false
is_past (Some ticks) quiet = nat_le ticks quiet

-- `is_overdue connection tick is_other_idle`: the timeout of the connection is over at this tick
abbrev pub is_overdue : Connection → ℕ → Bool → Bool
is_overdue connection tick is_other_idle = is_past (timeout_by connection.state connection.patience is_other_idle) (tick - connection.since)

-- `is_overdue_in slot tick is_other_idle`: the timeout of the slot's connection is over at this tick; false for an empty slot
abbrev pub is_overdue_in : Option Connection → ℕ → Bool → Bool
is_overdue_in None tick is_other_idle = false
is_overdue_in (Some connection) tick is_other_idle = is_overdue connection tick is_other_idle

-- `linked_by linked is_open tick`: what is noted after this tick as the last at which a connection was open: this tick if one is open or
-- nothing was noted, else what was noted before
abbrev pub linked_by : Option ℕ → Bool → ℕ → Option ℕ
linked_by None is_open tick = Some tick
linked_by (Some linked) true tick = Some tick
linked_by (Some linked) false tick = Some linked

-- the slot has a connection whose worker is idle
abbrev pub is_idle : Option Connection → Bool
is_idle connection = is_some (idle_in connection)

-- in the slots before `places`, counted from 0, each connection whose timeout was over at this tick is closed; each slot whose timeout was
-- not over is the same. A task's timeout counts if a worker was idle in one of the slots `old`.
pub record OverdueClosed (places : ℕ) (old new : List (Option Connection)) (tick : ℕ) : Type 0 where
  -- a connection whose timeout was over is closed
  pub ended : (place : ℕ) → place < places → is_overdue_in (connection_at old place) tick (list_any is_idle old) ≡ true → connection_at new place ≡ None
  -- a slot whose timeout was not over is the same
  pub stays : (place : ℕ) → is_overdue_in (connection_at old place) tick (list_any is_idle old) ≡ false → connection_at new place ≡ connection_at old place
