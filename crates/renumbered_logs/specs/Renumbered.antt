-- The log of a search over the kept clauses, behind the resolvents: its clauses have the numbers that they have among all clauses.
use Rattle.std.specs.Prelude.{◌≡◌, ℕ, ◌+◌, ◌-◌, nat_le, Bool, List, [], ◌++◌, length, map, slice_index_or, All, if◌then◌else◌}
use Rattle.lrat_text.specs.Grammar.{IsStepWithin, LineSpellsWithin}
use Rattle.lrat_text.specs.Runs.{text_of}
use Rattle.lrat_text.specs.declared.step.Step.{Step}
use Rattle.lrat_text.specs.declared.step.Step.TheVariants.{Add, Delete}
use Rattle.proof_join.specs.RenumberedSteps.{renumbered}
use Rattle.elimination.specs.Kept.{HasEliminated}

-- the number, among `all` clauses, of what a log over the kept ones calls n: a kept clause has the one of its place among `numbers`, and the
-- lemmas come behind all clauses
abbrev pub behind_all : List ℕ → ℕ → ℕ → ℕ
behind_all numbers all n = if nat_le n (length numbers) then slice_index_or numbers (n - 1) 0 else n - length numbers + all

-- the steps of a log under these numbers
abbrev pub steps_behind : List ℕ → ℕ → List Step → List Step
steps_behind numbers all steps = map (renumbered (behind_all numbers all)) steps

-- a step's property: it adds no clause with a literal of an eliminated variable, and no groups
abbrev pub Avoids : List Bool → Step → Type 0
Avoids gone (Add id lits hints groups) = ¬ (HasEliminated gone lits) × (groups ≡ [])
Avoids gone (Delete ids) = Unit {0}

-- the text `new` is `old` and the lines of the steps that `log` spells, behind `all` clauses
pub record GoesOn (numbers : List ℕ) (all : ℕ) (gone : List Bool) (log old new : List ℕ) : Type 0 where
  pub steps : List Step
  pub spelled : LineSpellsWithin 199999999 log steps
  pub avoid : All (Avoids gone) steps
  pub limits : All (IsStepWithin 199999999) (steps_behind numbers all steps)
  pub text : new ≡ old ++ text_of all (steps_behind numbers all steps)
