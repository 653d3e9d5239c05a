use Rattle.std.proofs.Common.{◌≡◌, ◌≤◌, drop, Some}
use Rattle.command_line.specs.SolverWords.{digits_after}
use Rattle.command_line.proofs.solver_words.asked.limit_of.Given as goal

-- the digits that are left make of the number what all of them make
abbrev pub invariant-loop-byte : goal.invariant-loop-byte
invariant-loop-byte l =
    (digits_after (Some l.number) (drop l.byte-index l.text) ≡ digits_after (Some 0) l.text) × (l.number ≤ 1000000000)
