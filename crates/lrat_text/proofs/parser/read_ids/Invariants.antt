use Rattle.std.proofs.Common.{◌≡◌, length}
use Rattle.lrat_text.specs.Parser.{ids_in, line_tokens}
use Rattle.lrat_text.proofs.parser.read_ids.Given as goal

abbrev pub invariant-loop-token : goal.invariant-loop-token
invariant-loop-token l = ids_in l.numbers.items (line_tokens l.rest) ≡ ids_in l.fn.numbers.items (line_tokens l.fn.text)

abbrev pub decreases-loop-token : goal.decreases-loop-token
decreases-loop-token l = length l.rest
