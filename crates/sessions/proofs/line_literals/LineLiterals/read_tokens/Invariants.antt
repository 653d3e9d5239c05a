use Rattle.std.proofs.Common.{◌≡◌, length}
use Rattle.dimacs.specs.text.Words.{words}
use Rattle.sessions.specs.Events.{read_tokens}
use Rattle.sessions.proofs.line_literals.LineLiterals.read_tokens.Given as goal

abbrev pub invariant-loop-number : goal.invariant-loop-number
invariant-loop-number l = read_tokens l.most l.line (words l.rest) l.self ≡ read_tokens l.most l.line (words l.fn.text) l.fn.self

abbrev pub decreases-loop-number : goal.decreases-loop-number
decreases-loop-number l = length l.rest
