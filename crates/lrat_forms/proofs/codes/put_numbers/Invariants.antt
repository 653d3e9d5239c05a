use Rattle.std.proofs.Common.{map, take}
use Rattle.dimacs.specs.logic.Literal.{index_of}
use Rattle.lrat_binary.specs.Grammar.{clause_code}
use Rattle.lrat_forms.specs.inner.Codes.{Adds}
use Rattle.lrat_forms.proofs.codes.put_numbers.Given as goal

abbrev pub invariant-loop-number : goal.invariant-loop-number
invariant-loop-number l = Adds l.fn.out.items l.out.items (map clause_code (take l.number-index l.numbers))
