use Rattle.std.proofs.Common.{◌≡◌, ℕ, List, length}
use Rattle.dimacs.specs.logic.Literal.{Literal}
use Rattle.lrat_text.specs.Parser.{hints_in, line_tokens}
use Rattle.lrat_text.proofs.parser.take_hints.Given as goal

abbrev pub invariant-loop-n : goal.invariant-loop-n
invariant-loop-n l = (id : ℕ) (lits : List Literal) → hints_in id lits l.hints.items (line_tokens l.rest) ≡ hints_in id lits l.fn.hints.items (line_tokens l.fn.text)

abbrev pub decreases-loop-n : goal.decreases-loop-n
decreases-loop-n l = length l.rest
