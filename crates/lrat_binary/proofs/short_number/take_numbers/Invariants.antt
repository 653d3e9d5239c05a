use Rattle.std.proofs.Common.{◌≡◌, ◌≤◌, ℕ, List, [], ◌++◌, length}
use Rattle.dimacs.specs.logic.Literal.{Literal}
use Rattle.lrat_binary.specs.Parser.{AtHints, AtDeleted, InStep, read}
use Rattle.lrat_binary.proofs.short_number.take_numbers.Given as goal

abbrev pub invariant-loop-code : goal.invariant-loop-code
invariant-loop-code l = record {
  hints : (most id : ℕ) (lits : List Literal) (more : List ℕ) → read (InStep (AtHints most id lits l.fn.numbers.items []) 0 1) (l.fn.text ++ more) ≡ read (InStep (AtHints most id lits l.numbers.items []) 0 1) (l.rest ++ more);
  deleted : (most : ℕ) (more : List ℕ) → read (InStep (AtDeleted most l.fn.numbers.items) 0 1) (l.fn.text ++ more) ≡ read (InStep (AtDeleted most l.numbers.items) 0 1) (l.rest ++ more);
  shorter : length l.rest ≤ length l.fn.text;
}

abbrev pub decreases-loop-code : goal.decreases-loop-code
decreases-loop-code l = length l.rest
