use Rattle.std.proofs.Common.{◌≡◌, ℕ, List, [], length}
use Rattle.dimacs.specs.logic.Literal.{Literal}
use Rattle.lrat_text.specs.Parser.{hints_in, line_tokens}
use Rattle.lrat_text.proofs.parser.read_hints.Given as goal

abbrev pub invariant-loop-token : goal.invariant-loop-token
invariant-loop-token l = record {
  none : l.groups ≡ [];
  left : (id : ℕ) (lits : List Literal) → hints_in id lits l.numbers.items (line_tokens l.rest) ≡ hints_in id lits l.fn.numbers.items (line_tokens l.fn.text);
}

abbrev pub decreases-loop-token : goal.decreases-loop-token
decreases-loop-token l = length l.rest
