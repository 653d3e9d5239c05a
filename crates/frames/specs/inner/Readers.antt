-- The invariant of a reader.
use Rattle.std.specs.Prelude.{◌≢◌, ℕ, ◌≤◌, List, Option, Some, None, vec_capacity}
use Rattle.std.specs.Global.{Vec}
use Rattle.frames.specs.declared.fault.FrameFault.{FrameFault}
use Rattle.frames.specs.declared.fault.FrameFault.TheVariants.{NoMemory}
use Rattle.frames.specs.Stream.{Ends, Open}

-- the fields of a reader fit: an open rest, or a fault of the stream
abbrev pub IsProgress : Option FrameFault → List ℕ → Type 0
IsProgress None rest = Ends rest Open
IsProgress (Some fault) rest = fault ≢ NoMemory

-- the invariant of a reader: the buffer has room for the longest frame, and its bytes are an open rest unless there was a fault
pub record IsReader (fault : Option FrameFault) (buffer : Vec ℕ) : Type 0 where
  pub room : 4037 ≤ vec_capacity buffer
  pub progress : IsProgress fault buffer.items
