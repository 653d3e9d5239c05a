-- The lines of a text, as they are cut and as they are read.
use Rattle.std.specs.Prelude.{◌≡◌, ℕ, ◌<◌, ◌≤◌, ◌==◌, false, List, [], ◌∷◌, ◌++◌, All, length, slice_range, Contains, Ok}
use Rattle.lrat_text.specs.Grammar.{SpellsStep, lf}
use Rattle.lrat_text.specs.Parser.{step_within}
use Rattle.lrat_text.specs.declared.step.Step.{Step}

-- the bytes have no LF
abbrev pub IsOpen : List ℕ → Type 0
IsOpen bytes = All (λ b. (b == lf) ≡ false) bytes

-- the text is the line, an LF and the rest; the line has no LF
abbrev pub IsCut : List ℕ → List ℕ → List ℕ → Type 0
IsCut text line rest = (text ≡ line ++ lf ∷ rest) × IsOpen line

-- the pieces of a text between its LFs: the last one is empty, and each of the others is read as the step of the same index, with variables
-- up to most
abbrev pub AllReadWithin : ℕ → List (List ℕ) → List Step → Type 0
AllReadWithin most [] steps = ⊥
AllReadWithin most (last ∷ []) steps = (last ≡ []) × (steps ≡ [])
AllReadWithin most (piece ∷ next ∷ pieces) [] = ⊥
AllReadWithin most (piece ∷ next ∷ pieces) (step ∷ steps) = (step_within most piece ≡ Ok step) × AllReadWithin most (next ∷ pieces) steps

-- the same with variables up to 2,000,000
abbrev pub AllRead : List (List ℕ) → List Step → Type 0
AllRead pieces steps = AllReadWithin 2000000 pieces steps

-- the bytes from offset at to before offset place are one line that spells the step, with its LF
pub record IsLineBetween (bytes : List ℕ) (at place : ℕ) (step : Step) : Type 0 where
  pub line : List ℕ
  pub rises : at < place
  pub inside : place ≤ length bytes
  pub splits : slice_range bytes at place ≡ line ++ lf ∷ []
  pub one_line : ¬ (Contains line lf)
  pub spells : SpellsStep line step
