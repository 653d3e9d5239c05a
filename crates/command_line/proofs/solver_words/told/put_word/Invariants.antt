use Rattle.std.proofs.Common.{◌≡◌, ◌++◌, map, drop}
use Rattle.command_line.specs.SolverWords.{shown}
use Rattle.command_line.proofs.solver_words.told.put_word.Given as goal

-- what is left of the word is still to be appended
abbrev pub invariant-loop-byte : goal.invariant-loop-byte
invariant-loop-byte l = l.out.items ++ map shown (drop l.byte-index l.word) ≡ l.fn.out.items ++ map shown l.word
