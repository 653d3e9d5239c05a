use Rattle.std.proofs.Common.{◌≡◌, ◌++◌, List, take, Ok}
use Rattle.frames.specs.declared.frame.Frame.{Frame}
use Rattle.frames.specs.Stream.{HasTaken, answer_in, joined}
use Rattle.frames.proofs.reader.read_pieces.Given as goal

-- the reader has taken the pieces so far, and met no fault
abbrev pub invariant-loop-piece : goal.invariant-loop-piece
invariant-loop-piece l = record {
  new : List Frame;
  frames : l.frames.items ≡ l.initial.frames.items ++ new;
  taken : HasTaken l.reader (joined (take l.piece-index l.pieces)) new;
  well : answer_in l.reader ≡ Ok tt;
}
