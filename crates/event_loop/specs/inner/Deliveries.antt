-- How the bytes that come over a link are delivered to the coordinator as frames, and when idle workers are polled for.
use Rattle.std.specs.Prelude.{◌≡◌, ◌≢◌, ◌<◌, ◌==◌, ℕ, Bool, true, false, List, [], ◌∷◌, take, Option, Some, None, IsSome, IsSomeAnd, Ok, ⊤}
use Rattle.lrat_check.specs.declared.verdict.Reaction.{Reaction}
use Rattle.lrat_check.specs.declared.verdict.Reaction.TheVariants as reaction
use Rattle.frames.specs.Stream.{TakesPiece}
use Rattle.frames.specs.declared.frame.Frame.{Frame}
use Rattle.frames.specs.declared.frame.Frame.TheVariants.{Done, Piece, Want, Idle, Rest}
use Rattle.links.specs.declared.arrivals.Event.{Event}
use Rattle.links.specs.declared.arrivals.Event.TheVariants.{Linked, Bytes, Quiet, Over}
use Rattle.evidence.specs.Events.{Delivered, Reacted}
use Rattle.coordinator_core.specs.Coordinator.{CoordinatorState, CoordinatorStep, coordinator_poll}
use Rattle.event_loop.specs.declared.connection.Connection.{Connection}
use Rattle.event_loop.specs.declared.run.Run.{Run}
use Rattle.event_loop.specs.inner.Registrations.{connection_at, idle_in, registered_worker}

-- the worker that a frame to the coordinator names as its sender; none for a frame that a coordinator sends
abbrev pub sender_of : Frame → Option ℕ
sender_of (Done attempt ending) = Some attempt.worker
sender_of (Piece attempt offset bytes) = Some attempt.worker
sender_of (Want session worker offset) = Some worker
sender_of (Idle worker incarnation) = Some worker
sender_of _ = None

-- `is_own_by worker sender`: both are there and are the same worker
abbrev pub is_own_by : Option ℕ → Option ℕ → Bool
is_own_by None sender = false
is_own_by (Some worker) None = false
is_own_by (Some worker) (Some sender) = worker == sender

-- `is_own owner frame`: the frame names the worker `owner` as its sender; false if there is no owner
abbrev pub is_own : Option ℕ → Frame → Bool
is_own owner frame = is_own_by owner (sender_of frame)

-- the frame was delivered to the coordinator, which went from `old` to `new`, did not refuse the frame, and did not lack memory
pub record FrameHandled (frame : Frame) (old new : CoordinatorState) : Type 0 where
  -- the reaction of the coordinator
  pub answer : Reaction
  -- memory was not refused
  pub memory : answer ≢ reaction.NoMemory
  -- the frame was not refused
  pub right : (fault : ℕ) → answer ≢ reaction.Refused fault
  -- the step of the coordinator
  pub step : CoordinatorStep old (Delivered frame) (Reacted answer) new

-- `PolledFor worker old new`: the coordinator was polled for a frame to this worker and went from `old` to `new`; it is unchanged if there
-- is no worker
abbrev pub PolledFor : Option ℕ → CoordinatorState → CoordinatorState → Type 0
PolledFor None old new = new ≡ old
PolledFor (Some worker) old new = new ≡ (coordinator_poll old worker).after

-- `AreDelivered worker frames old new`: these frames, each of which names this worker, were delivered one after the other, and after each
-- the coordinator was polled for the worker; this led the coordinator from `old` to `new`
abbrev pub AreDelivered : Option ℕ → List Frame → CoordinatorState → CoordinatorState → Type 0
AreDelivered worker [] old new = new ≡ old
AreDelivered worker (frame ∷ frames) old new =
    (handled : CoordinatorState) × (told : CoordinatorState) × (is_own worker frame ≡ true) × FrameHandled frame old handled × PolledFor worker handled told
    × AreDelivered worker frames told new

-- `IsNextDelivered worker frame old new`: if the delivery of some frames leads the coordinator from `new` to `after`, the delivery of this
-- frame and then of those leads it from `old` to `after`
abbrev pub IsNextDelivered : Option ℕ → Frame → CoordinatorState → CoordinatorState → Type 0
IsNextDelivered worker frame old new =
    (frames : List Frame) → (after : CoordinatorState) → AreDelivered worker frames new after → AreDelivered worker (frame ∷ frames) old after

-- the connection has the same registered worker, the same waiting frames, and the same bytes of a frame that is not complete
pub record StaysLinked (old new : Connection) : Type 0 where
  pub owner : registered_worker new ≡ registered_worker old
  pub waiting : new.waiting.items ≡ old.waiting.items
  pub reader : new.reader ≡ old.reader

-- the frames that waited at the connection `old`, and then those of these bytes, were delivered, so that none waits at `new`; this led the
-- coordinator from `before` to `after`
pub record BytesHandled (bytes : List ℕ) (old new : Connection) (before after : CoordinatorState) : Type 0 where
  -- the frames that were delivered, in order
  pub frames : List Frame
  -- they are the frames that waited, and then those that the bytes complete
  pub came : TakesPiece old.reader bytes old.waiting.items frames (Ok tt) new.reader
  -- they were delivered, each followed by a poll
  pub delivered : AreDelivered (registered_worker old) frames before after
  -- no frame waits after that
  pub none_waits : new.waiting.items ≡ []

-- `BytesHandledAt bytes old new before after`: of a slot that was `old` and is `new`, to whose link these bytes came. They were delivered,
-- if a worker was registered and the connection is still open. An empty slot stays empty, and the coordinator is unchanged.
abbrev pub BytesHandledAt : List ℕ → Option Connection → Option Connection → CoordinatorState → CoordinatorState → Type 0
BytesHandledAt bytes None new before after = (new ≡ None) × (after ≡ before)
BytesHandledAt bytes (Some old) None before after = ⊤
BytesHandledAt bytes (Some old) (Some new) before after = IsSome (registered_worker old) → BytesHandled bytes old new before after

-- `IsElsewhere place old new`: all slots except this one are the same
abbrev pub IsElsewhere : ℕ → List (Option Connection) → List (Option Connection) → Type 0
IsElsewhere place old new = (p : ℕ) → p ≢ place → connection_at new p ≡ connection_at old p

-- `EventHandled event room old new before after`: the event, whose bytes are at the front of `room`, was handled: all bytes that came were
-- delivered, and no slot changed except that of the event. The slots went from `old` to `new`, and the coordinator from `before` to
-- `after`.
abbrev pub EventHandled : Event → List ℕ → List (Option Connection) → List (Option Connection) → CoordinatorState → CoordinatorState → Type 0
EventHandled (Linked place) room old new before after = IsElsewhere place old new
EventHandled (Bytes place count) room old new before after = BytesHandledAt (take count room) (connection_at old place) (connection_at new place) before after × IsElsewhere place old new
EventHandled Quiet room old new before after = (new ≡ old) × (after ≡ before)
EventHandled Over room old new before after = (new ≡ old) × (after ≡ before)

-- `NextEventHandled came links old new`: an event came over these links, and the run, `old` before and `new` after, handled it. `came`
-- relates the links before a receive, the event, the buffer with its bytes, and the links after.
abbrev pub NextEventHandled : {A : Type 0} → (A → Event → List ℕ → A → Type 0) → A → Run → Run → Type 0
NextEventHandled {A} came links old new =
    (event : Event) × (room : List ℕ) × (after : A) × came links event room after
    × EventHandled event room old.slots.items new.slots.items old.dispatcher.coordinator new.dispatcher.coordinator

-- `FirstEventHandled came links old`: an event came over these links, and the run handled it first, being `old` before. `came` relates the
-- links before a receive, the event, the buffer with its bytes, and the links after.
abbrev pub FirstEventHandled : {A : Type 0} → (A → Event → List ℕ → A → Type 0) → A → Run → Type 0
FirstEventHandled came links old = (handled : Run) × NextEventHandled came links old handled

-- `IsToldBy frame told`: `told` is the polled frame, or none if the frame is Rest, which tells a worker nothing
abbrev pub IsToldBy : Frame → Option Frame → Type 0
IsToldBy frame None = frame ≡ Rest
IsToldBy frame (Some told) = (told ≡ frame) × (frame ≢ Rest)

-- `HasNothing c worker`: the coordinator has nothing for this worker to do
abbrev pub HasNothing : CoordinatorState → ℕ → Type 0
HasNothing c worker = (coordinator_poll c worker).frame ≡ Rest

-- `NobodyIdle slots places`: in none of the slots before this one, counted from 0, is a worker idle
abbrev pub NobodyIdle : List (Option Connection) → ℕ → Type 0
NobodyIdle slots places = (place : ℕ) → place < places → idle_in (connection_at slots place) ≡ None

-- The coordinator has nothing for idle workers to do. If it has nothing for one of them, it has nothing for any.
pub data IdleHaveNothing (slots : List (Option Connection)) (c : CoordinatorState) : Type 0 where
  -- no worker is idle in any of the slots 0 to 254
  nobody : NobodyIdle slots 255 → IdleHaveNothing slots c
  -- the worker of some slot is idle, and the coordinator has nothing for it to do
  one : (place : ℕ) → IsSomeAnd (idle_in (connection_at slots place)) (HasNothing c) → IdleHaveNothing slots c
