-- Which worker is registered, queued or idle at a connection, which queued worker may register, and what the coordinator is told when a
-- connection has ended.
use Rattle.std.specs.Prelude.{◌≡◌, ◌<◌, ◌==◌, ℕ, Bool, false, not, List, Option, Some, None, slice_index_or}
use Rattle.std.specs.List.{list_any}
use Rattle.evidence.specs.Events.{Lost, Silent}
use Rattle.coordinator_core.specs.Coordinator.{CoordinatorState, CoordinatorStep}
use Rattle.event_loop.specs.declared.connection.Connection.{Connection}
use Rattle.event_loop.specs.declared.connection.State.{State}
use Rattle.event_loop.specs.declared.connection.State.TheVariants.{Handshake, Queued, Idle, Pending, Working}

-- `registered_by state worker`: the worker, if a connection in this state has its worker registered
abbrev pub registered_by : State → Option ℕ → Option ℕ
registered_by Handshake worker = None
registered_by Queued worker = None
registered_by Idle worker = worker
registered_by Pending worker = worker
registered_by Working worker = worker

-- `queued_by state worker`: the worker, if a connection in this state has its worker queued
abbrev pub queued_by : State → Option ℕ → Option ℕ
queued_by Handshake worker = None
queued_by Queued worker = worker
queued_by Idle worker = None
queued_by Pending worker = None
queued_by Working worker = None

-- `idle_by state worker`: the worker, if a connection in this state has its worker idle
abbrev pub idle_by : State → Option ℕ → Option ℕ
idle_by Handshake worker = None
idle_by Queued worker = None
idle_by Idle worker = worker
idle_by Pending worker = None
idle_by Working worker = None

-- the worker that is registered at a connection; none before its handshake and while its worker is queued
abbrev pub registered_worker : Connection → Option ℕ
registered_worker connection = registered_by connection.state connection.worker

-- the worker that is queued at a connection, if it is in that state
abbrev pub queued_worker : Connection → Option ℕ
queued_worker connection = queued_by connection.state connection.worker

-- the worker that is registered at a connection, if it is idle
abbrev pub idle_worker : Connection → Option ℕ
idle_worker connection = idle_by connection.state connection.worker

-- the worker that is registered at the connection of a slot; none for an empty slot
abbrev pub registered_in : Option Connection → Option ℕ
registered_in None = None
registered_in (Some connection) = registered_worker connection

-- the worker that is queued at the connection of a slot; none for an empty slot
abbrev pub queued_in : Option Connection → Option ℕ
queued_in None = None
queued_in (Some connection) = queued_worker connection

-- the worker of a slot's connection, if it is idle; none for an empty slot
abbrev pub idle_in : Option Connection → Option ℕ
idle_in None = None
idle_in (Some connection) = idle_worker connection

-- the slot of this index, counted from 0; an empty one if there is no such slot
abbrev pub connection_at : List (Option Connection) → ℕ → Option Connection
connection_at slots place = slice_index_or slots place None

-- `is_worker worker other`: `other` is there and is this worker
abbrev pub is_worker : ℕ → Option ℕ → Bool
is_worker worker None = false
is_worker worker (Some other) = other == worker

-- `is_registered worker slot`: this worker is registered at the connection of the slot
abbrev pub is_registered : ℕ → Option Connection → Bool
is_registered worker connection = is_worker worker (registered_in connection)

-- `may_register_by slots queued`: a worker is queued, and it is registered at no connection of these slots
abbrev pub may_register_by : List (Option Connection) → Option ℕ → Bool
may_register_by slots None = false
may_register_by slots (Some worker) = not (list_any (is_registered worker) slots)

-- `may_register slots place`: a worker is queued at the connection of slot `place`, and is registered at no connection
abbrev pub may_register : List (Option Connection) → ℕ → Bool
may_register slots place = may_register_by slots (queued_in (connection_at slots place))

-- `NobodyMayRegister slots places`: in none of the slots before this one, counted from 0, is a worker queued that is registered at no
-- connection
abbrev pub NobodyMayRegister : List (Option Connection) → ℕ → Type 0
NobodyMayRegister slots places = (place : ℕ) → place < places → may_register slots place ≡ false

-- `IsLost worker old new`: the connection of this worker has ended; the coordinator is told that the worker is lost, and goes from `old` to
-- `new`. Without a worker it is unchanged.
abbrev pub IsLost : Option ℕ → CoordinatorState → CoordinatorState → Type 0
IsLost None old new = new ≡ old
IsLost (Some worker) old new = CoordinatorStep old (Lost worker) Silent new

-- no worker is registered at the connections of two slots
pub record AreApart (slots : List (Option Connection)) : Type 0 where
  pub one_place : (p q worker : ℕ) → registered_in (connection_at slots p) ≡ Some worker → registered_in (connection_at slots q) ≡ Some worker → p ≡ q
