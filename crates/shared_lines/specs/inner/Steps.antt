-- What a step has to be, and what calls that read one give.
use Rattle.std.specs.Prelude.{◌≡◌, ℕ, [], ◌∷◌, Result, Ok, Err}
use Rattle.lrat_text.specs.declared.fault.TextFault.{TextFault}
use Rattle.lrat_text.specs.declared.fault.TextFault.TheVariants.{NoMemory}
use Rattle.lrat_text.specs.declared.step.Step.{Step}
use Rattle.lrat_text.specs.declared.step.Step.TheVariants.{Add, Delete}

-- the step is no addition with a group
abbrev pub HasNoGroup : Step → Type 0
HasNoGroup (Add id C hints groups) = groups ≡ []
HasNoGroup (Delete ids) = Unit {0}

-- the step adds a clause by these two hints
abbrev pub HasTwoHints : Step → ℕ × ℕ → Type 0
HasTwoHints (Add id C hints groups) p = (hints ≡ p.0 ∷ p.1 ∷ []) × (groups ≡ [])
HasTwoHints (Delete ids) p = ⊥

-- a call that reads into a buffer, which then holds `new`, reads this step and answers these two numbers, or memory was refused
abbrev pub GivesTwo : Step → ℕ × ℕ → Step → Result (ℕ × ℕ) TextFault → Type 0
GivesTwo x p new (Ok found) = (new ≡ x) × (found ≡ p)
GivesTwo x p new (Err fault) = fault ≡ NoMemory

-- the step adds a clause without hints and groups
abbrev pub IsBare : Step → Type 0
IsBare (Add id C hints groups) = (hints ≡ []) × (groups ≡ [])
IsBare (Delete ids) = ⊥
