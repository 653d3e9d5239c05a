use Rattle.std.proofs.Common.{◌≡◌, ◌++◌, map, drop, string_bytes}
use Rattle.command_line.specs.SolverWords.{asked, asked_from, asked_of, told_all, told_from}
use Rattle.command_line.proofs.solver_words.asked.read_words.Given as goal

-- the words that are left, after those that were read, ask for what all words ask for; and their lines are still to be appended
abbrev pub invariant-loop-word : goal.invariant-loop-word
invariant-loop-word l =
    (asked_from (asked_of l.solving) (map string_bytes (drop l.word-index l.words)) ≡ asked (map string_bytes l.words))
    × (l.out.items ++ told_from (asked_of l.solving) (map string_bytes (drop l.word-index l.words)) ≡ l.fn.out.items ++ told_all (map string_bytes l.words))
