use Rattle.std.proofs.Common.{◌≡◌, ℕ, List, ◌++◌, length}
use Rattle.answers.specs.Pieces.{read_on}
use Rattle.answers.proofs.lines.AnswerLines.take.Given as goal

abbrev pub invariant-loop-part : goal.invariant-loop-part
invariant-loop-part l = (more : List ℕ) → read_on l.fn.self (l.fn.piece ++ more) ≡ read_on l.self (l.rest ++ more)

abbrev pub decreases-loop-part : goal.decreases-loop-part
decreases-loop-part l = length l.rest
