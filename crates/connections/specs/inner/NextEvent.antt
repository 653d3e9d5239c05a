-- The event that a call returns, by what is left in the read buffer.
use Rattle.std.specs.Prelude.{◌≡◌, ◌≢◌, ◌<◌, ◌⊎◌, ℕ, List, [], ◌++◌, length, take}
use Rattle.links.specs.declared.arrivals.Event.{Event}
use Rattle.links.specs.declared.arrivals.Event.TheVariants.{Bytes}
use Rattle.connections.specs.Unread.{Unread}

-- `count` bytes, at least one, were moved from the front of the read buffer to the front of the room, in order; the others stay in the
-- buffer
pub record IsHandedOut (old : Unread) (place count : ℕ) (room : List ℕ) (new : Unread) : Type 0 where
  pub some : 0 < count
  pub whose : place ≡ old.place
  pub bytes : old.bytes ≡ take count room ++ new.bytes
  pub others : new.place ≡ old.place

-- the event that a call returns is right, by what is left in the read buffer before (`old`) and after (`new`)
pub data Finds (old : Unread) (event : Event) (room : List ℕ) (new : Unread) : Type 0 where
  -- bytes were left: the next of them
  next : (place count : ℕ) → event ≡ Bytes place count → IsHandedOut old place count room new → Finds old event room new
  -- no bytes were left: the first bytes of a new read from one connection, the others of which are left; or the end of that connection
  first : (place count : ℕ) → event ≡ Bytes place count → old.bytes ≡ [] → new.place ≡ place → Finds old event room new
  -- an event without bytes; if the room is empty, what is left stays
  nothing : ((place count : ℕ) → event ≢ Bytes place count) → (0 < length room → (old.bytes ≡ []) × (new ≡ old)) → (old.bytes ≡ []) ⊎ (new ≡ old)
      → Finds old event room new
