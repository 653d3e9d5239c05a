-- The words that are still to come.
use Rattle.std.proofs.Common.{ℕ, Bool, true, false, List}
use Rattle.explanations.specs.Words.{explaining_from, without_explain}
use Rattle.explanations.specs.declared.asked.Explaining.{Explaining}

-- what is kept of them; after `--` all
abbrev pub rest : Bool → List (List ℕ) → List (List ℕ)
rest true words = words
rest false words = without_explain words

-- what they ask for after `so_far`; after `--` nothing more
abbrev pub asked_rest : Explaining → Bool → List (List ℕ) → Explaining
asked_rest so_far true words = so_far
asked_rest so_far false words = explaining_from so_far words
