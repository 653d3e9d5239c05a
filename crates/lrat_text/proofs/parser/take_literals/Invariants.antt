use Rattle.std.proofs.Common.{◌≡◌, ◌≤◌, ℕ, length}
use Rattle.lrat_text.specs.Parser.{line_tokens, literals_in}
use Rattle.lrat_text.proofs.parser.take_literals.Given as goal

abbrev pub invariant-loop-n : goal.invariant-loop-n
invariant-loop-n l = record {
  left : (id : ℕ) → literals_in l.most id l.literals.items (line_tokens l.rest) ≡ literals_in l.most id l.fn.literals.items (line_tokens l.fn.text);
  shorter : length l.rest ≤ length l.fn.text;
}

abbrev pub decreases-loop-n : goal.decreases-loop-n
decreases-loop-n l = length l.rest
