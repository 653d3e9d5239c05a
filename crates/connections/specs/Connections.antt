-- The places of a listener that have a connection, and its read buffer.
use Rattle.std.specs.Prelude.{Bool, List, map, is_some}
use Rattle.connections.specs.Unread.{Unread}
use Rattle.connections.specs.declared.listener.Connections.{Connections}

-- for each place, from 0 on, whether it has a connection
abbrev pub links_of : {C : Type 0} → Connections C → List Bool
links_of connections = map (λ e. is_some e) connections.slots.items

-- the bytes of a listener that were read and not handed out yet
abbrev pub unread_of : {C : Type 0} → Connections C → Unread
unread_of connections = connections.buffer
