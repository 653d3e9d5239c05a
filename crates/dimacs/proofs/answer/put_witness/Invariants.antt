use Rattle.std.proofs.Common.{◌≡◌, ◌≤◌, ◌+◌, ◌++◌, drop}
use Rattle.dimacs.specs.text.Answer.{filled, witness_lines}
use Rattle.dimacs.specs.text.Grammar.{Begins}
use Rattle.dimacs.proofs.AnswerLemmas.{items_from}
use Rattle.dimacs.proofs.answer.put_witness.Given as goal

-- what is written and what is left make the whole
abbrev pub invariant-loop-i : goal.invariant-loop-i
invariant-loop-i l =
    (l.used ≤ 78) × Begins l.fn.out.items l.out.items
    × (l.out.items ++ filled l.used (items_from (l.i + 1) (drop l.i l.values)) ≡ l.fn.out.items ++ witness_lines l.values)
