use Rattle.std.proofs.Common.{take}
use Rattle.lrat_text.specs.Pieces.{joined}
use Rattle.lrat_check.specs.Stream.{HasTaken}
use Rattle.lrat_check.proofs.stream.check_pieces.Given as goal

-- the pieces so far have been taken
abbrev pub invariant-loop-piece : goal.invariant-loop-piece
invariant-loop-piece l = HasTaken l.formula l.stream (joined (take l.piece-index l.pieces))
