use Rattle.std.proofs.Common.{◌≡◌, ◌≤◌, ℕ, List, ◌++◌, length}
use Rattle.lrat_binary.specs.Parser.{AtLiterals, InStep, read}
use Rattle.lrat_binary.proofs.short_number.take_literals.Given as goal

abbrev pub invariant-loop-code : goal.invariant-loop-code
invariant-loop-code l = record {
  reads : (id : ℕ) (more : List ℕ) → read (InStep (AtLiterals l.most id l.fn.literals.items) 0 1) (l.fn.text ++ more) ≡ read (InStep (AtLiterals l.most id l.literals.items) 0 1) (l.rest ++ more);
  shorter : length l.rest ≤ length l.fn.text;
}

abbrev pub decreases-loop-code : goal.decreases-loop-code
decreases-loop-code l = length l.rest
