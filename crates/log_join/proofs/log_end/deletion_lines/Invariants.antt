use Rattle.std.proofs.Common.{◌≡◌, ◌++◌, length, All}
use Rattle.lrat_text.specs.Grammar.{IsClauseNumber}
use Rattle.lrat_text.specs.Runs.{text_of}
use Rattle.log_join.specs.JoinedLogs.{deletions}
use Rattle.log_join.proofs.log_end.deletion_lines.Given as goal

abbrev pub invariant-loop-rest : goal.invariant-loop-rest
invariant-loop-rest l = record {
  numbers : All IsClauseNumber l.rest;
  text : l.text.items ++ text_of l.top (deletions l.rest) ≡ text_of l.top (deletions l.ids);
}

abbrev pub decreases-loop-rest : goal.decreases-loop-rest
decreases-loop-rest l = length l.rest
