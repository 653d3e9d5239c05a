use Rattle.std.specs.Prelude.{All}
use Rattle.lrat_text.specs.Grammar.{IsClauseNumber}
use Rattle.proof_trim.proofs.needs.Needs.numbers.Given as goal

abbrev pub invariant-loop-number : goal.invariant-loop-number
invariant-loop-number l = All IsClauseNumber l.out.items
