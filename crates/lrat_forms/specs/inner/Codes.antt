-- Numbers and steps that are appended in binary form: old are the bytes before, new those after.
use Rattle.std.specs.Prelude.{◌≡◌, ℕ, List, ◌++◌}
use Rattle.lrat_text.specs.declared.step.Step.{Step}
use Rattle.lrat_binary.specs.Grammar.{SpellsNumber, SpellsNumbers, SpellsStepWithin}

-- the bytes that were appended spell the number n
abbrev pub AddsNumber : List ℕ → List ℕ → ℕ → Type 0
AddsNumber old new n = (bytes : List ℕ) × (new ≡ old ++ bytes) × SpellsNumber bytes n

-- the bytes that were appended spell these codes, one after the other
abbrev pub Adds : List ℕ → List ℕ → List ℕ → Type 0
Adds old new codes = (bytes : List ℕ) × (new ≡ old ++ bytes) × SpellsNumbers bytes codes

-- the bytes that were appended spell the step, with variables up to most
abbrev pub AddsStep : ℕ → List ℕ → List ℕ → Step → Type 0
AddsStep most old new step = (bytes : List ℕ) × (new ≡ old ++ bytes) × SpellsStepWithin most bytes step
