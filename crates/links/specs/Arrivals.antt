-- What an event says: its bytes, whether it is counted, and the link that begins.
use Rattle.std.specs.Prelude.{ℕ, ◌≤◌, ◌==◌, Bool, true, false, ⊤, if◌then◌else◌}
use Rattle.links.specs.declared.arrivals.Event.{Event}
use Rattle.links.specs.declared.arrivals.Event.TheVariants.{Linked, Bytes, Quiet, Over}

-- an event's property: it has no more bytes than `room`
abbrev pub IsWithin : Event → ℕ → Type 0
IsWithin (Linked place) room = ⊤
IsWithin (Bytes place count) room = count ≤ room
IsWithin Quiet room = ⊤
IsWithin Over room = ⊤

-- the number by which an event raises the count of events: 1 for each except `Over`
abbrev pub arrived : Event → ℕ
arrived (Linked place) = 1
arrived (Bytes place count) = 1
arrived Quiet = 1
arrived Over = 0

-- the number of links that begin at place `p` by an event: 1 or 0
abbrev pub begun_at : Event → ℕ → ℕ
begun_at (Linked place) p = if p == place then 1 else 0
begun_at (Bytes place count) p = 0
begun_at Quiet p = 0
begun_at Over p = 0

-- whether the event is `Over`: nothing comes after it
abbrev pub is_over : Event → Bool
is_over (Linked place) = false
is_over (Bytes place count) = false
is_over Quiet = false
is_over Over = true
