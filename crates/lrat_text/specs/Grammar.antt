-- The grammar of LRAT lines (Cruz-Filipe, Heule, Hunt, Kaufmann and Schneider-Kamp 2017), in the profile of docs/FORMATS.md.
-- This is what a reader must believe of lines. Parser says which fault a line has that spells no step.
use Rattle.std.specs.Prelude.{◌≡◌, ℕ, ◌-◌, ◌≤◌, ◌<◌, ◌^◌, ◌==◌, List, [], ◌∷◌, ◌++◌, length, slice_index, map, codes, decimal, Contains, All}
use Rattle.std.specs.List.{slice_split, filter, flat_map}
use Rattle.std.specs.Fmt.{signed_decimal}
use Rattle.dimacs.specs.logic.Literal.{Literal, IsWithin, number_of}
use Rattle.dimacs.specs.text.Words.{is_some_byte}
use Rattle.dimacs.specs.logic.Rat.{Group}
use Rattle.lrat_text.specs.declared.step.Step.{Step}
use Rattle.lrat_text.specs.declared.step.Step.TheVariants.{Add, Delete}

-- the byte between two tokens
abbrev pub space : ℕ
space = 32

-- the byte that ends a line
abbrev pub lf : ℕ
lf = 10

-- the tokens of a line: its maximal runs of bytes other than the space
abbrev pub tokens : List ℕ → List (List ℕ)
tokens line = filter is_some_byte (slice_split (λ b. b == space) line)

-- the line is not empty, and has no space at its beginning or end
pub record IsTrimmed (line : List ℕ) : Type 0 where
  pub some : 0 < length line
  pub first : slice_index line 0 ≡ space → ⊥
  pub last : slice_index line (length line - 1) ≡ space → ⊥

-- n is a clause number: it is from 1 to 2^48 - 1
abbrev pub IsClauseNumber : ℕ → Type 0
IsClauseNumber n = (1 ≤ n) × (n < 2 ^ 48)

-- the candidate and the hints of the group g are clause numbers
abbrev pub IsGroup : Group → Type 0
IsGroup g = IsClauseNumber g.0 × All IsClauseNumber g.1

-- the step's clause numbers are within their limits, and its variables are from 1 to most
abbrev pub IsStepWithin : ℕ → Step → Type 0
IsStepWithin most (Add id lits hints groups) = IsClauseNumber id × All (IsWithin most) lits × All IsClauseNumber hints × All IsGroup groups
IsStepWithin most (Delete ids) = All IsClauseNumber ids

-- the step's clause numbers are within their limits, and its variables are from 1 to 2,000,000, the limit if a reader is given no other one
abbrev pub IsStep : Step → Type 0
IsStep step = IsStepWithin 2000000 step

-- the token of a literal: its variable's number, after a minus if it is negated
abbrev pub literal_token : Literal → List ℕ
literal_token l = signed_decimal (number_of l)

-- the tokens of a group: its candidate's number after a minus, and its hints
abbrev pub group_tokens : Group → List (List ℕ)
group_tokens g = (codes "-" ++ decimal g.0) ∷ map decimal g.1

-- The tokens of a step. An addition is its number, the literals, 0, the hints, the groups, 0. A deletion is the number top, which means
-- nothing, the letter d, the numbers of the deleted clauses, 0.
abbrev pub step_tokens : ℕ → Step → List (List ℕ)
step_tokens top (Add id lits hints groups) =
    decimal id ∷ (map literal_token lits ++ codes "0" ∷ (map decimal hints ++ flat_map group_tokens groups ++ codes "0" ∷ []))
step_tokens top (Delete ids) = decimal top ∷ codes "d" ∷ (map decimal ids ++ codes "0" ∷ [])

-- the line, which has no LF, spells the step with variables up to most; the number top at the beginning of a deletion is free
pub record SpellsStepWithin (most : ℕ) (line : List ℕ) (step : Step) : Type 0 where
  pub top : ℕ
  pub trimmed : IsTrimmed line
  pub limits : IsStepWithin most step
  pub numbered : IsClauseNumber top
  pub spelled : tokens line ≡ step_tokens top step

-- the line, which has no LF, spells the step with variables up to 2,000,000
abbrev pub SpellsStep : List ℕ → Step → Type 0
SpellsStep line step = SpellsStepWithin 2000000 line step

-- the text is the lines of the steps in their order, each ended by LF, with variables up to most
abbrev pub LineSpellsWithin : ℕ → List ℕ → List Step → Type 0
LineSpellsWithin most text [] = text ≡ []
LineSpellsWithin most text (step ∷ steps) =
    (line : List ℕ) × (rest : List ℕ) × (text ≡ line ++ lf ∷ rest) × ¬ (Contains line lf) × SpellsStepWithin most line step × LineSpellsWithin most rest steps

-- the text is the lines of the steps in their order, each ended by LF, with variables up to 2,000,000
abbrev pub LineSpells : List ℕ → List Step → Type 0
LineSpells text steps = LineSpellsWithin 2000000 text steps
