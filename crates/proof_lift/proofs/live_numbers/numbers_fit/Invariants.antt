use Rattle.std.proofs.Common.{take}
use Rattle.std.specs.Prelude.{All}
use Rattle.lrat_text.specs.Grammar.{IsClauseNumber}
use Rattle.proof_lift.proofs.live_numbers.numbers_fit.Given as goal

abbrev pub invariant-loop-number : goal.invariant-loop-number
invariant-loop-number l = All IsClauseNumber (take l.number-index l.numbers)
