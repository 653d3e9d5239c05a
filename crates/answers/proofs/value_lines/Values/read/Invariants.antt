use Rattle.std.proofs.Common.{◌≡◌, length}
use Rattle.dimacs.specs.text.Words.{words}
use Rattle.answers.specs.Pieces.{naming_of}
use Rattle.answers.specs.Parse.{read_tokens}
use Rattle.answers.proofs.value_lines.Values.read.Given as goal

abbrev pub invariant-loop-number : goal.invariant-loop-number
invariant-loop-number l = read_tokens l.line (words l.rest) (naming_of l.self) ≡ read_tokens l.line (words l.fn.text) (naming_of l.fn.self)

abbrev pub decreases-loop-number : goal.decreases-loop-number
decreases-loop-number l = length l.rest
