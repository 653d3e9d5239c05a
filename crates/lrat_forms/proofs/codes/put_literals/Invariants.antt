use Rattle.std.proofs.Common.{map, take}
use Rattle.dimacs.specs.logic.Literal.{index_of}
use Rattle.lrat_binary.specs.Grammar.{clause_code}
use Rattle.lrat_forms.specs.inner.Codes.{Adds}
use Rattle.lrat_forms.proofs.codes.put_literals.Given as goal

abbrev pub invariant-loop-lit : goal.invariant-loop-lit
invariant-loop-lit l = Adds l.fn.out.items l.out.items (map index_of (take l.lit-index l.lits))
