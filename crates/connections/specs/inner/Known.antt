-- The bytes of connections that are known: those that will be read (`remaining`), or those that were written (`contents`).
use Rattle.std.specs.Prelude.{◌≢◌, ℕ, List, Option, Some, None, slice_index_or, take}
use Rattle.std.specs.Io.KnownBytes.{Consumes, Keeps}
use Rattle.connections.specs.declared.connection.Connection.{Connection}

-- the known bytes of the connection in a slot; nothing of a free slot
abbrev pub known_in : {S : Type 0} → (S → Option (List ℕ)) → Option (Connection S) → Option (List ℕ)
known_in known None = None
known_in known (Some connection) = known connection.stream

-- the known bytes of the connection at a place; nothing of a free slot
abbrev pub known_at : {S : Type 0} → (S → Option (List ℕ)) → List (Option (Connection S)) → ℕ → Option (List ℕ)
known_at known slots place = known_in known (slice_index_or slots place None)

-- a read, by the bytes that come before and after it: one that returns `count` takes that many bytes from their front, and one that returns
-- nothing takes none
abbrev pub Reads : Option (List ℕ) → Option ℕ → List ℕ → Option (List ℕ) → Type 0
Reads old None room new = Keeps old new
Reads old (Some count) room new = Consumes old new (take count room)

-- a read of one of several connections, by the bytes that come before and after it: it takes those that it returns from the front of what
-- comes at the returned place, and none elsewhere
abbrev pub ReadsOne : (ℕ → Option (List ℕ)) → Option (ℕ × ℕ) → List ℕ → (ℕ → Option (List ℕ)) → Type 0
ReadsOne old None room new = (place : ℕ) → Keeps (old place) (new place)
ReadsOne old (Some found) room new =
    Consumes (old found.0) (new found.0) (take found.1 room) × ((place : ℕ) → place ≢ found.0 → Keeps (old place) (new place))
