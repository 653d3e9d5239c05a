use Rattle.std.proofs.Common.{◌≡◌, ◌++◌, map, drop, string_bytes}
use Rattle.explanations.specs.Words.{explaining_of, without_explain}
use Rattle.explanations.proofs.AskedLemmas.{asked_rest, rest}
use Rattle.explanations.proofs.asked.Asked.of.Given as goal

abbrev pub invariant-loop-word : goal.invariant-loop-word
invariant-loop-word l =
    (map (λ w. w.now) l.kept.items ++ rest l.are_names (map string_bytes (drop l.word-index l.words)) ≡ without_explain (map string_bytes l.words))
    × (asked_rest l.explaining l.are_names (map string_bytes (drop l.word-index l.words)) ≡ explaining_of (map string_bytes l.words))
