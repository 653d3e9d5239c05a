-- Events: what may happen to a machine (a coordinator or a worker), and the machine's output.
use Rattle.std.specs.Prelude.{◌≡◌, ℕ, ◌<◌, length, Result, Ok, Err}
use Rattle.lrat_check.specs.declared.verdict.Reaction.{Reaction}
use Rattle.lrat_check.specs.declared.verdict.Reaction.TheVariants as reaction
use Rattle.frames.specs.declared.frame.Frame.{Frame}
use Rattle.frames.specs.declared.frame.Frame.TheVariants.{Task, Done, Fetch, Piece, Verdict, Want, Part, Idle, Rest}

-- the greatest number of bytes of evidence in one frame
abbrev pub chunk : ℕ
chunk = 4000

-- a frame is delivered; a worker searches; the machine is polled for its next frame (a coordinator for its next frame to the worker
-- of this number); the link to the worker of this number is lost
pub data Event : Type 0 where
  Delivered : Frame → Event
  Worked : Event
  Polled : ℕ → Event
  Lost : ℕ → Event

-- the output of an event: a reaction, a frame, or nothing
pub data Given : Type 0 where
  Reacted : Reaction → Given
  Sent : Frame → Given
  Silent : Given

-- the output of a poll, from the result of the call: its frame, or `NoMemory`
abbrev pub given_by : {E : Type 0} → Result Frame E → Given
given_by (Ok frame) = Sent frame
given_by (Err fault) = Reacted reaction.NoMemory

-- the event is ignored: the reaction is `Ignored`, and the state is unchanged
abbrev pub Ignores : {S : Type 0} → S → Reaction → S → Type 0
Ignores old answer new = (answer ≡ reaction.Ignored) × (new ≡ old)

-- the frame has literals or a chunk, for which memory is allocated
abbrev pub FrameNeedsMemory : Frame → Type 0
FrameNeedsMemory (Task session job limit cube) = 0 < length cube
FrameNeedsMemory (Piece attempt offset bytes) = Unit {0}
FrameNeedsMemory (Part session part offset bytes) = Unit {0}
FrameNeedsMemory (Done attempt ending) = ⊥
FrameNeedsMemory (Fetch attempt offset) = ⊥
FrameNeedsMemory (Verdict session finding) = ⊥
FrameNeedsMemory (Want session worker offset) = ⊥
FrameNeedsMemory (Idle worker incarnation) = ⊥
FrameNeedsMemory Rest = ⊥
