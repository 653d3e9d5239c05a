use Rattle.std.proofs.Common.{◌≡◌, length}
use Rattle.dimacs.specs.text.Words.{words}
use Rattle.dimacs.specs.text.Rows.{read_words}
use Rattle.icnf.specs.inner.TreeBody.{format}
use Rattle.icnf.proofs.tree_body.TreeBody.read_words.Given as goal

abbrev pub invariant-loop-found : goal.invariant-loop-found
invariant-loop-found l = read_words (format l.formula.clauses) l.line (words l.rest) l.self ≡ read_words (format l.fn.formula.clauses) l.line (words l.fn.text) l.fn.self

abbrev pub decreases-loop-found : goal.decreases-loop-found
decreases-loop-found l = length l.rest
