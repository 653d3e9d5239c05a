use Rattle.std.proofs.Common.{◌≡◌, length}
use Rattle.dimacs.specs.text.Words.{words}
use Rattle.icnf.specs.Parser.{format}
use Rattle.dimacs.specs.text.Rows.{read_words}
use Rattle.icnf.proofs.body.Body.read_words.Given as goal

abbrev pub invariant-loop-word : goal.invariant-loop-word
invariant-loop-word l = read_words format l.line (words l.rest) l.self ≡ read_words format l.line (words l.fn.text) l.fn.self

abbrev pub decreases-loop-word : goal.decreases-loop-word
decreases-loop-word l = length l.rest
