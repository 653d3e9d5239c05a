use Rattle.std.proofs.Common.{◌≡◌, map, drop}
use Rattle.command_line.specs.SolverTable.{meaning_in}
use Rattle.command_line.specs.inner.SolverRows.{row_of}
use Rattle.command_line.proofs.solver_words.table.found_in.Given as goal

-- what the rows that are left say is what all rows say
abbrev pub invariant-loop-row : goal.invariant-loop-row
invariant-loop-row l = meaning_in (map row_of (drop l.row-index l.rows)) l.word ≡ meaning_in (map row_of l.rows) l.word
