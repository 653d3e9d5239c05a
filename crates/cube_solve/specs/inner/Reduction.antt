-- Reduction: which lemmas a search may delete, and what it deletes.
use Rattle.std.specs.Prelude.{◌≡◌, ℕ, ◌<◌, ◌≤◌, List, [], ◌++◌, ◌⊎◌, length, Some, All, Contains}
use Rattle.std.specs.List.{AllPairs}
use Rattle.dimacs.specs.logic.ClauseMap.{Live}
use Rattle.dimacs.specs.logic.Literal.{Clause}
use Rattle.lrat_text.specs.Grammar.{IsStep, IsClauseNumber}
use Rattle.lrat_text.specs.WrittenLine.{line_of}
use Rattle.lrat_text.specs.declared.step.Step.TheVariants.{Delete}
use Rattle.watches.specs.declared.trail.Assigned.{Assigned}

-- each number is below those after it
abbrev pub AreRising : List ℕ → Type 0
AreRising numbers = AllPairs (λ x y. x < y) numbers

-- the numbers of lemmas: they are at least `first`, in ascending order, and each has a live clause
pub record AreLemmas (first : ℕ) (live : Live) (numbers : List ℕ) : Type 0 where
  pub rising : AreRising numbers
  pub behind : All (λ n. first ≤ n) numbers
  pub lives : All (λ n. (C : Clause) × live n C) numbers

-- a clause number's property: its clause is live, has three or more literals, and is the reason of no entry
pub record IsDeletable (live : Live) (entries : List Assigned) (number : ℕ) : Type 0 where
  pub clause : Clause
  pub lives : live number clause
  pub long : 2 < length clause
  pub free : (e : Assigned) → Contains entries e → ¬ (e.reason ≡ Some number)

-- the clauses `new` are those of `old` except the ones with the numbers `ids`
pub record AreAllExcept (old : Live) (ids : List ℕ) (new : Live) : Type 0 where
  pub stays : (n : ℕ) (C : Clause) → old n C → ¬ (Contains ids n) → new n C
  pub was : (n : ℕ) (C : Clause) → new n C → ¬ (Contains ids n) × old n C

-- more than 2,000 lemmas are live, with numbers from `first` on
pub record AreMany (first : ℕ) (live : Live) : Type 0 where
  pub numbers : List ℕ
  pub lemmas : AreLemmas first live numbers
  pub many : 2000 < length numbers

-- lemmas were deleted, in one line of the log, while more than 2,000 were live: from `old` to `new`, and from the text `before` to `text`
pub record Reduces (first : ℕ) (old new : Live) (before text : List ℕ) : Type 0 where
  pub ids : List ℕ
  pub some : 0 < length ids
  pub top : ℕ
  pub numbered : IsClauseNumber top
  pub limits : IsStep (Delete ids)
  pub lemmas : AreLemmas first old ids
  pub many : AreMany first old
  pub written : text ≡ before ++ line_of top (Delete ids)
  pub less : AreAllExcept old ids new

-- either clauses and text are unchanged, or lemmas were deleted in one line of the log
abbrev pub MayReduce : ℕ → Live → Live → List ℕ → List ℕ → Type 0
MayReduce first old new before text = (AreAllExcept old [] new × (text ≡ before)) ⊎ Reduces first old new before text

-- some of the lemmas were deleted, in one line of the log that begins with `top`; or none were
pub record DeletesLemmas (top : ℕ) (lemmas after : List ℕ) (old new : Live) (before text : List ℕ) : Type 0 where
  pub ids : List ℕ
  pub rising : AreRising ids
  pub among : All (Contains lemmas) ids
  pub kept : All (Contains lemmas) after
  pub less : AreAllExcept old ids new
  pub told : ((ids ≡ []) × (text ≡ before)) ⊎ (IsStep (Delete ids) × (text ≡ before ++ line_of top (Delete ids)))
