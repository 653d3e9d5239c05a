-- The grammar of a solver's answer (the output of the SAT competitions), by cases on its lines, and the literals that it names.
use Rattle.std.specs.Prelude.{◌≡◌, ◌≢◌, ℕ, ◌||◌, ◌==◌, List, [], ◌∷◌, All, Contains, map, Some, if◌then◌else◌}
use Rattle.std.specs.List.{flat_map}
use Rattle.std.specs.Str.{byte}
use Rattle.dimacs.specs.logic.Cnf.{Cnf}
use Rattle.dimacs.specs.logic.Literal.{Literal, Clause, IsTautology, IsWithin}
use Rattle.dimacs.specs.text.Numbers.{number}
use Rattle.dimacs.specs.text.Rows.{by_tokens}
use Rattle.dimacs.specs.text.Grammar.{ended}
use Rattle.dimacs.specs.text.Words.{lines, words}

-- a line of an answer: one that is passed over, the tokens of one that has values, or a line that no answer has
pub data AnswerLine : Type 0 where
  Passed : AnswerLine
  Values : List (List ℕ) → AnswerLine
  Foreign : AnswerLine

-- the line of these bytes: the first one decides; c and s are passed over, as is white space alone, and values follow a v
abbrev pub line_of : List ℕ → AnswerLine
line_of [] = Passed
line_of (b ∷ bs) =
    if b == byte "c" || b == byte "s" then Passed
    else (if b == byte "v" then Values (words bs)
    else by_tokens (words (b ∷ bs)) Passed (λ tokens. Foreign))

-- the tokens of a line's values; none if it has no values
abbrev pub tokens_of : AnswerLine → List (List ℕ)
tokens_of Passed = []
tokens_of (Values tokens) = tokens
tokens_of Foreign = []

-- the text names these literals: each line is one of an answer, the values are the numbers of the literals and then 0, no variable is above
-- 99,999,999, and no literal is named with its negation
pub record Names (text : List ℕ) (named : List Literal) : Type 0 where
  pub are_lines : All (λ line. line_of line ≢ Foreign) (lines text)
  pub values : map number (flat_map tokens_of (map line_of (lines text))) ≡ map Some (ended named)
  pub within : All (IsWithin 99999999) named
  pub no_pair : ¬ (IsTautology named)

-- a clause's property: it has one of the literals that are named
abbrev pub IsMet : List Literal → Clause → Type 0
IsMet named C = (l : Literal) × Contains C l × Contains named l

-- the text names literals of which each clause of the formula has one
abbrev pub Verifies : List ℕ → Cnf → Type 0
Verifies text F = (named : List Literal) × Names text named × All (IsMet named) F.clauses
