use Rattle.std.specs.Prelude.{All}
use Rattle.lrat_text.specs.Grammar.{IsGroup}
use Rattle.lrat_trim.proofs.rewriter.keep_groups.Given as goal

abbrev pub invariant-loop-i : goal.invariant-loop-i
invariant-loop-i l = All IsGroup l.out
