use Rattle.std.proofs.Common.{◌≡◌, ◌++◌, codes, take}
use Rattle.std.specs.List.{flat_map}
use Rattle.dimacs.specs.text.Grammar.{clause_line, header_text}
use Rattle.dimacs.proofs.writer.put_formula.Given as goal

abbrev pub invariant-loop-i : goal.invariant-loop-i
invariant-loop-i l = l.out.items ≡ (l.fn.out.items ++ (header_text l.formula ++ codes "\n")) ++ flat_map clause_line (take l.i l.formula.clauses)
