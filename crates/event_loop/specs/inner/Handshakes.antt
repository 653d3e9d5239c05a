-- The handshake: what the first frame of a connection does to the connection.
use Rattle.std.specs.Prelude.{◌≡◌, ◌≢◌, ◌≤◌, ◌<◌, ℕ, [], ◌∷◌, Option, Some, None, Result, Ok, Err}
use Rattle.frames.specs.declared.frame.Frame.{Frame}
use Rattle.frames.specs.declared.frame.Frame.TheVariants.{Idle}
use Rattle.event_loop.specs.declared.connection.Broken.{Broken}
use Rattle.event_loop.specs.declared.connection.Broken.TheVariants.{Closed}
use Rattle.event_loop.specs.declared.connection.Connection.{Connection}
use Rattle.event_loop.specs.declared.connection.State.TheVariants.{Handshake, Queued}

-- `PopsFrame old frame new`: the first waiting frame is taken out, and the others still wait; without a frame none waited, and nothing
-- changed
abbrev pub PopsFrame : Connection → Option Frame → Connection → Type 0
PopsFrame old None new = (old.waiting.items ≡ []) × (new ≡ old)
PopsFrame old (Some frame) new = (old.waiting.items ≡ frame ∷ new.waiting.items) × (new ≡ record old { waiting = new.waiting })

-- The connection `old` takes its first frame, and is then `new`. `highest` is the highest number that a worker may have.
pub data TakesFirstFrame (frame : Frame) (highest : ℕ) (old : Connection) (answer : Result (Unit {0}) Broken) (new : Connection) : Type 0 where
  -- the frame is Idle of a worker whose number is at most `highest`: the worker is queued
  accepted : (worker incarnation : ℕ) → frame ≡ Idle worker incarnation → worker ≤ highest → answer ≡ Ok tt
      → new ≡ record old { worker = Some worker; incarnation = incarnation; state = Queued } → TakesFirstFrame frame highest old answer new
  -- any other frame: the connection is broken
  other : ((worker incarnation : ℕ) → frame ≡ Idle worker incarnation → highest < worker) → answer ≡ Err Closed → new ≡ old → TakesFirstFrame frame highest old answer new

-- A connection takes its first frame, if it has come and was not taken before. `highest` is the highest number that a worker may have.
pub data HandshakeStep (highest : ℕ) (old : Connection) (answer : Result (Unit {0}) Broken) (new : Connection) : Type 0 where
  -- the handshake was made before: nothing changes
  later : old.state ≢ Handshake → answer ≡ Ok tt → new ≡ old → HandshakeStep highest old answer new
  -- no frame has come yet: nothing changes
  silent : old.state ≡ Handshake → old.waiting.items ≡ [] → answer ≡ Ok tt → new ≡ old → HandshakeStep highest old answer new
  -- the first frame has come, and is taken
  comes : (frame : Frame) (rest : Connection) → old.state ≡ Handshake → PopsFrame old (Some frame) rest → TakesFirstFrame frame highest rest answer new → HandshakeStep highest old answer new
