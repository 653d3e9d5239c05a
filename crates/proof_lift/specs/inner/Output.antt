-- What is appended to the output for a step.
use Rattle.std.specs.Prelude.{◌≡◌, ℕ, List, ◌++◌, Ok}
use Rattle.lrat_text.specs.Runs.{text_of}
use Rattle.lrat_text.specs.declared.step.Step.{Step}
use Rattle.proof_lift.specs.LiftedText.{LiftState, LiftedStep}

-- the new text begins with the old one
abbrev pub IsPrefix : List ℕ → List ℕ → Type 0
IsPrefix old new = (more : List ℕ) × (new ≡ old ++ more)

-- `WritesAs lifted own new before after`: the step is lifted to the state `new`, and its lines are
-- appended to the output, which was `before` and is `after`; `own` is the greatest number of the
-- log before the step
abbrev pub WritesAs : LiftedStep → ℕ → LiftState → List ℕ → List ℕ → Type 0
WritesAs lifted own new before after = (steps : List Step) × (lifted ≡ Ok (steps, new)) × (after ≡ before ++ text_of own steps)
