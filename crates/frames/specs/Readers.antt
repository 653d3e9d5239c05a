-- The state of a reader, by its two fields.
use Rattle.std.specs.Prelude.{ℕ, List, Option, Some, None}
use Rattle.frames.specs.declared.fault.FrameFault.{FrameFault}
use Rattle.frames.specs.Stream.{Progress, Within, Failed}

-- the state of a reader, by its fault if there is one, and by the bytes in its buffer
abbrev pub progress_of : Option FrameFault → List ℕ → Progress
progress_of None rest = Within rest
progress_of (Some fault) rest = Failed fault
