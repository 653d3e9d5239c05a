-- What the counts of a search say of its log.
use Rattle.std.specs.Prelude.{◌≡◌, ℕ, ◌<◌, List, [], ◌++◌, length, All, Option, Some, None}
use Rattle.std.specs.List.{AllPairs}
use Rattle.dimacs.specs.logic.Cnf.{Cnf}
use Rattle.dimacs.specs.logic.ClauseMap.{ClauseMap, map_of, live_in}
use Rattle.dimacs.specs.logic.Literal.{Clause}
use Rattle.lrat_text.specs.Grammar.{IsStepWithin, LineSpellsWithin}
use Rattle.lrat_text.specs.Log.{IsLog, additions, log_top}
use Rattle.lrat_text.specs.Runs.{after_steps}
use Rattle.lrat_text.specs.WrittenLine.{line_of}
use Rattle.lrat_text.specs.declared.step.Step.{Step}
use Rattle.lrat_text.specs.declared.step.Step.TheVariants.{Add}
use Rattle.cube_solve.specs.Outcome.{allowed}
use Rattle.cube_solve.specs.declared.observer.Counts.{Counts}
use Rattle.cube_solve.specs.declared.outcome.Outcome.{Outcome}
use Rattle.cube_solve.specs.declared.outcome.Outcome.TheVariants as outcome

-- the numbers are in ascending order, above m, and each has a clause of M
pub record AreLive (m : ℕ) (M : ClauseMap) (numbers : List ℕ) : Type 0 where
  pub rising : AllPairs (λ x y. x < y) numbers
  pub above : All (λ n. m < n) numbers
  pub lives : All (λ n. (C : Clause) × live_in M n C) numbers

-- the text is a log over the base B, with as many additions as conflicts are counted; as many lemmas as are counted are live after it
pub record IsCounted (B : Cnf) (c : Counts) (text : List ℕ) : Type 0 where
  pub steps : List Step
  pub spells : LineSpellsWithin (log_top B) text steps
  pub log : IsLog B steps
  pub conflicts : additions steps ≡ c.conflicts
  pub numbers : List ℕ
  pub live : AreLive (length B.clauses) (after_steps (map_of B) steps) numbers
  pub lemmas : length numbers ≡ c.lemmas

-- the text is a counted log, and the line of the lemma that closes
pub record IsCountedToEnd (B : Cnf) (c : Counts) (text : List ℕ) : Type 0 where
  pub before : List ℕ
  pub counted : IsCounted B c before
  pub id : ℕ
  pub lits : Clause
  pub hints : List ℕ
  pub limits : IsStepWithin 199999999 (Add id lits hints [])
  pub whole : text ≡ before ++ line_of id (Add id lits hints [])

-- the counts of a search with a limit of `most` lemmas are those of its log, whose bytes are counted too: a refutation is one, with the
-- lemma that closes; at the limit there are as many conflicts as it allows
abbrev pub AreCounts : Cnf → ℕ → Counts → Outcome → Type 0
AreCounts B most c (outcome.Model values) = (text : List ℕ) × IsCounted B c text × (length text ≡ c.bytes)
AreCounts B most c (outcome.Refuted text) = IsCountedToEnd B c text × (length text ≡ c.bytes)
AreCounts B most c (outcome.Limit text) = IsCounted B c text × (length text ≡ c.bytes) × (c.conflicts ≡ allowed most)

-- a search that found an assignment hands out its log, of which the counts tell; else the log is in the outcome
abbrev pub HasLog : Cnf → Counts → Outcome → Option (List ℕ) → Type 0
HasLog B c (outcome.Model values) (Some text) = IsCounted B c text × (length text ≡ c.bytes)
HasLog B c (outcome.Model values) None = ⊥
HasLog B c (outcome.Refuted text) log = log ≡ None
HasLog B c (outcome.Limit text) log = log ≡ None
