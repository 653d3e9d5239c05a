-- The words by which a command runs, those of a command line without `--explain` and `--no-explain`; and what these two ask for.
use Rattle.std.specs.Prelude.{ℕ, Bool, List, [], ◌∷◌, Option, Some, None, is_some, unwrap_or, nat_eq, codes, if◌then◌else◌}
use Rattle.std.specs.Cmp.Lexicographic.{pointwise}
use Rattle.explanations.specs.declared.asked.Explaining.{Explaining}
use Rattle.explanations.specs.declared.asked.Explaining.TheVariants.{Always, Never, OnTerminal}

-- whether two words are the same
abbrev pub same : List ℕ → List ℕ → Bool
same word other = pointwise nat_eq word other

-- what a word asks for; none if it is neither `--explain` nor `--no-explain`
abbrev pub asks : List ℕ → Option Explaining
asks word = if same word (codes "--explain") then Some Always else if same word (codes "--no-explain") then Some Never else None

-- the words without those that ask for something; after `--` every word is a file's name
abbrev pub without_explain : List (List ℕ) → List (List ℕ)
without_explain [] = []
without_explain (word ∷ words) =
    if is_some (asks word) then without_explain words
    else if same word (codes "--") then word ∷ words
    else word ∷ without_explain words

-- when a report is explained, if the words so far ask for `so_far`: as the last word says that asks for something, before any `--`
abbrev pub explaining_from : Explaining → List (List ℕ) → Explaining
explaining_from so_far [] = so_far
explaining_from so_far (word ∷ words) =
    if is_some (asks word) then explaining_from (unwrap_or (asks word) so_far) words
    else if same word (codes "--") then so_far
    else explaining_from so_far words

-- when a report is explained by these words: on a terminal, if none of them asks for something
abbrev pub explaining_of : List (List ℕ) → Explaining
explaining_of words = explaining_from OnTerminal words
