-- Connections that a turn has broken, and connections that have made no handshake.
use Rattle.std.specs.Prelude.{◌≡◌, ℕ, List, [], ◌∷◌, Option, Some, None, Result, Ok, Err, ⊤}
use Rattle.event_loop.specs.declared.connection.Broken.{Broken}
use Rattle.event_loop.specs.declared.connection.Broken.TheVariants.{Closed, NoMemory}
use Rattle.event_loop.specs.declared.connection.Connection.{Connection}
use Rattle.event_loop.specs.declared.connection.State.TheVariants.{Handshake}

-- 1 if the result of a connection's turn is that the connection has to be closed, else 0
abbrev pub one_if_closed : {A : Type 0} → Result A Broken → ℕ
one_if_closed (Ok x) = 0
one_if_closed (Err Closed) = 1
one_if_closed (Err NoMemory) = 0

-- the slot is empty, or its connection has made no handshake
abbrev pub IsFresh : Option Connection → Type 0
IsFresh None = ⊤
IsFresh (Some connection) = connection.state ≡ Handshake

-- no connection of these slots has made its handshake
abbrev pub AreFresh : List (Option Connection) → Type 0
AreFresh [] = ⊤
AreFresh (connection ∷ slots) = IsFresh connection × AreFresh slots
