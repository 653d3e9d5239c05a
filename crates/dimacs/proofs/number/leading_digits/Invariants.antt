use Rattle.std.proofs.Common.{◌≤◌}
use Rattle.dimacs.proofs.NumberLemmas.{Digits}
use Rattle.dimacs.proofs.number.leading_digits.Given as goal

-- only digits so far
abbrev pub invariant-loop-i : goal.invariant-loop-i
invariant-loop-i l = (l.value ≤ 100000000) × Digits l.text l.i l.value
