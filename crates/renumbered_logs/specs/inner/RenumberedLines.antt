-- A log that is written under the numbers among all clauses, line by line.
use Rattle.std.specs.Prelude.{◌≡◌, ℕ, Bool, List, ◌++◌, All}
use Rattle.lrat_text.specs.Grammar.{IsClauseNumber, IsStepWithin, LineSpellsWithin}
use Rattle.lrat_text.specs.Log.{top_after}
use Rattle.lrat_text.specs.Runs.{text_of}
use Rattle.lrat_text.specs.WrittenLine.{line_of}
use Rattle.lrat_text.specs.declared.step.Step.{Step}
use Rattle.proof_join.specs.RenumberedSteps.{renumbered}
use Rattle.renumbered_logs.specs.Renumbered.{behind_all, steps_behind, Avoids, GoesOn}

-- the step may be written under its new numbers
pub record CanBePut (numbers : List ℕ) (all : ℕ) (gone : List Bool) (step : Step) : Type 0 where
  pub avoids : Avoids gone step
  pub limits : IsStepWithin 199999999 (renumbered (behind_all numbers all) step)

-- the line of the step was appended; before it the last lemma had the number `before`, and after it the number `top`
pub record IsPut (numbers : List ℕ) (all : ℕ) (gone : List Bool) (step : Step) (before top : ℕ) (old new : List ℕ) : Type 0 where
  pub can : CanBePut numbers all gone step
  pub text : new ≡ old ++ line_of before (renumbered (behind_all numbers all) step)
  pub after : top ≡ top_after before (renumbered (behind_all numbers all) step)
  pub numbered : IsClauseNumber top

-- the text `new` is `old` and the lines of the steps that `rest` spells, with `top` as the number of the last lemma before them
pub record IsLeft (numbers : List ℕ) (all : ℕ) (gone : List Bool) (top : ℕ) (rest old new : List ℕ) : Type 0 where
  pub steps : List Step
  pub spelled : LineSpellsWithin 199999999 rest steps
  pub avoid : All (Avoids gone) steps
  pub limits : All (IsStepWithin 199999999) (steps_behind numbers all steps)
  pub text : new ≡ old ++ text_of top (steps_behind numbers all steps)

-- the invariant of writing: the new texts of the whole log are those of its rest, after what was written so far
pub record IsUnderWay (numbers : List ℕ) (all : ℕ) (gone : List Bool) (log before : List ℕ) (top : ℕ) (rest out : List ℕ) : Type 0 where
  pub numbered : IsClauseNumber top
  pub leads : (new : List ℕ) → GoesOn numbers all gone log before new → IsLeft numbers all gone top rest out new
  pub back : (new : List ℕ) → IsLeft numbers all gone top rest out new → GoesOn numbers all gone log before new
