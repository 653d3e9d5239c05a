use Rattle.std.proofs.Common.{◌≡◌, map, drop}
use Rattle.command_line.specs.SolverTable.{lines_have}
use Rattle.command_line.proofs.solver_words.table.is_in_lines.Given as goal

abbrev pub invariant-loop-line : goal.invariant-loop-line
invariant-loop-line l = lines_have (map (λ line. line.now) (drop l.line-index l.lines)) l.word ≡ lines_have (map (λ line. line.now) l.lines) l.word
