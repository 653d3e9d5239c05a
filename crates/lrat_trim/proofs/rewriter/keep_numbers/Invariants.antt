use Rattle.std.specs.Prelude.{All}
use Rattle.lrat_text.specs.Grammar.{IsClauseNumber}
use Rattle.lrat_trim.proofs.rewriter.keep_numbers.Given as goal

abbrev pub invariant-loop-id : goal.invariant-loop-id
invariant-loop-id l = All IsClauseNumber l.out.items
