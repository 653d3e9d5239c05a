use Rattle.std.proofs.Common.{◌≡◌, length}
use Rattle.dimacs.specs.text.Words.{words}
use Rattle.dimacs.specs.text.Parser.{format}
use Rattle.dimacs.specs.text.Rows.{read_words}
use Rattle.dimacs.proofs.body.Body.read_words.Given as goal

abbrev pub invariant-loop-number : goal.invariant-loop-number
invariant-loop-number l = read_words format l.line (words l.rest) l.self ≡ read_words format l.line (words l.fn.text) l.fn.self

abbrev pub decreases-loop-number : goal.decreases-loop-number
decreases-loop-number l = length l.rest
