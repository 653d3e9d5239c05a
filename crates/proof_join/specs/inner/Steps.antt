-- The steps of a fragment, as they are copied one after the other.
use Rattle.std.specs.Prelude.{◌≡◌, ℕ, ◌+◌, ◌^◌, ◌<◌, ◌≤◌, List, [], ◌∷◌, ◌++◌, length, All, Option, Some, None, Result, Ok, Err}
use Rattle.std.specs.Borrow.{Bor}
use Rattle.dimacs.specs.logic.Literal.{Clause}
use Rattle.dimacs.specs.logic.Rat.{Group}
use Rattle.lrat_text.specs.Grammar.{LineSpellsWithin}
use Rattle.lrat_text.specs.Log.{top_after}
use Rattle.lrat_text.specs.WrittenLine.{literals_text}
use Rattle.lrat_text.specs.declared.step.Step.{Step}
use Rattle.lrat_text.specs.declared.step.Step.TheVariants.{Add, Delete}
use Rattle.proof_join.specs.Steps.{steps_in}
use Rattle.proof_join.specs.declared.fault.JoinFault.{JoinFault}
use Rattle.proof_join.specs.declared.fault.JoinFault.TheVariants.{TooLong, NoMemory}

-- a step's property in a log whose last addition was k: it is an addition of k + 1 by hints up to k alone, or a deletion of numbers up to k
abbrev pub IsLow : ℕ → Step → Type 0
IsLow k (Add id lits hints groups) = (id ≡ k + 1) × All (λ h. h ≤ k) hints × (groups ≡ [])
IsLow k (Delete ids) = All (λ id. id ≤ k) ids

-- each step is of a log whose last addition was k at first
abbrev pub AreLow : ℕ → List Step → Type 0
AreLow k [] = Unit {0}
AreLow k (step ∷ steps) = IsLow k step × AreLow (top_after k step) steps

-- a text's property: its steps may follow b clauses, since they name no number that was not given
pub record IsOwn (b : ℕ) (text : List ℕ) : Type 0 where
  pub spelled : LineSpellsWithin 199999999 text (steps_in text)
  pub low : AreLow b (steps_in text)

-- the last of these steps; `before` if there is none
abbrev pub last_of : Step → List Step → Step
last_of before [] = before
last_of before (step ∷ steps) = last_of step steps

-- the clause that a step adds; the empty one of a deletion
abbrev pub clause_of : Step → Clause
clause_of (Add id lits hints groups) = lits
clause_of (Delete ids) = []

-- a call makes this text of the output, or answers that the text is too long, or that memory was refused
abbrev pub Writes : {A : Type 0} → Result A JoinFault → List ℕ → List ℕ → Type 0
Writes (Ok x) new text = (new ≡ text) × (length text < 2 ^ 32)
Writes (Err TooLong) new text = 2 ^ 32 ≤ length text
Writes (Err NoMemory) new text = Unit {0}

-- the last of these steps is an addition
pub record EndsByAddition (steps : List Step) : Type 0 where
  pub front : List Step
  pub id : ℕ
  pub clause : Clause
  pub hints : List ℕ
  pub groups : List Group
  pub splits : steps ≡ front ++ Add id clause hints groups ∷ []

-- a text's property: it is a fragment that may be copied after b clauses
pub record IsFragment (b : ℕ) (text : List ℕ) : Type 0 where
  pub own : IsOwn b text
  pub ends : EndsByAddition (steps_in text)

-- a step is held as an addition without its literals, and `text` is their text
abbrev pub IsApart : List ℕ → Step → Step → Type 0
IsApart text held (Add id lits hints groups) = (held ≡ Add id [] hints groups) × (text ≡ literals_text lits)
IsApart text held (Delete ids) = ⊥

-- a step is held whole, or without its literals if there is a text of these
abbrev pub IsHeld : Option (Bor (List ℕ)) → Step → Step → Type 0
IsHeld None held step = held ≡ step
IsHeld (Some text) held step = IsApart text.now held step
