use Rattle.std.proofs.Common.{◌≡◌, ◌++◌, List, length}
use Rattle.frames.specs.declared.frame.Frame.{Frame}
use Rattle.frames.specs.Stream.{Splits}
use Rattle.frames.proofs.reader.read_whole_frames.Given as goal

-- the frames so far are those of the bytes before the rest
abbrev pub invariant-loop-frame : goal.invariant-loop-frame
invariant-loop-frame l = (new : List Frame) × (l.frames.items ≡ l.initial.frames.items ++ new) × Splits l.piece new l.rest

abbrev pub decreases-loop-frame : goal.decreases-loop-frame
decreases-loop-frame l = length l.rest
