use Rattle.std.proofs.Common.{◌++◌, length}
use Rattle.dimacs.specs.inner.Pieces.{IsOpen, LeadsTo}
use Rattle.dimacs.proofs.formula_reader.take_piece.Given as goal

-- the lines so far lead to the rest of the piece
abbrev pub invariant-loop-end : goal.invariant-loop-end
invariant-loop-end l = IsOpen l.begun.items × LeadsTo l.fn.lines (l.fn.begun.items ++ l.fn.piece) l.lines (l.begun.items ++ l.rest)

abbrev pub decreases-loop-end : goal.decreases-loop-end
decreases-loop-end l = length l.rest
