use Rattle.std.proofs.Common.{◌≡◌, ◌<◌, ℕ, List, length}
use Rattle.dimacs.specs.logic.Literal.{Literal}
use Rattle.lrat_text.specs.Parser.{groups_in, line_tokens}
use Rattle.lrat_text.proofs.parser.read_groups.Given as goal

abbrev pub invariant-loop-token : goal.invariant-loop-token
invariant-loop-token l = record {
  some : 0 < length l.groups;
  left : (id : ℕ) (lits : List Literal) (hints : List ℕ) → groups_in id lits hints l.groups (line_tokens l.rest) ≡ groups_in id lits hints l.fn.groups (line_tokens l.fn.text);
}

abbrev pub decreases-loop-token : goal.decreases-loop-token
decreases-loop-token l = length l.rest
