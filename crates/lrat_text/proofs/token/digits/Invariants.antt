use Rattle.std.proofs.Common.{◌≤◌, ◌^◌}
use Rattle.lrat_text.proofs.DigitLemmas.{Digits}
use Rattle.lrat_text.proofs.token.digits.Given as goal

-- only digits so far
abbrev pub invariant-loop-i : goal.invariant-loop-i
invariant-loop-i l = (l.value ≤ 2 ^ 48) × Digits l.text l.i l.value
