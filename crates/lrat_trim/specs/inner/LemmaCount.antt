-- The number of lemmas of a text, by counts of two of its bytes.
use Rattle.std.specs.Prelude.{ℕ, ◌-◌, ◌==◌, List}
use Rattle.std.specs.List.{count_by}

-- the number of lemmas of a text: lines less deletions, since a line has one LF, and one letter d if and only if it deletes
abbrev pub lemmas_in : List ℕ → ℕ
lemmas_in text = count_by (λ b. b == 10) text - count_by (λ b. b == 100) text
