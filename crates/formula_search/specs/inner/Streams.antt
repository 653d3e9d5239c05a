-- Searches whose logs are handed to a sink as they grow.
use Rattle.std.specs.Prelude.{◌≡◌, ℕ, ◌+◌, ◌-◌, Bool, List, [], ◌∷◌, ◌++◌, length, All, Option, Some, None}
use Rattle.clause_arena.specs.Clauses.{Clauses}
use Rattle.cube_solve.specs.Conflicts.{MeetsConflict}
use Rattle.cube_solve.specs.Counts.{IsCounted, IsCountedToEnd}
use Rattle.cube_solve.specs.Outcome.{IsBrief, IsModel, allowed}
use Rattle.cube_solve.specs.Stepwise.{IsUnderWay}
use Rattle.cube_solve.specs.declared.observer.Counts.{Counts}
use Rattle.cube_solve.specs.declared.stepwise.End.{End}
use Rattle.cube_solve.specs.declared.stepwise.End.TheVariants as finish
use Rattle.cube_solve.specs.declared.stepwise.Stepwise.{Stepwise}
use Rattle.dimacs.specs.logic.Cnf.{Cnf}
use Rattle.formula_search.specs.declared.streaming.Ending.{Ending}
use Rattle.lrat_text.specs.Grammar.{IsClauseNumber, IsStepWithin, LineSpellsWithin}
use Rattle.lrat_text.specs.Log.{Closes, IsHonest}
use Rattle.lrat_text.specs.WrittenLine.{line_of}
use Rattle.lrat_text.specs.declared.step.Step.{Step}
use Rattle.renumbered_logs.specs.Renumbered.{Avoids, steps_behind}
use Rattle.renumbered_logs.specs.declared.renumbering.Renumbering.{Renumbering}
use Rattle.watches.specs.Trails.{TrailValue}

-- ---- the end of a search
-- a search over the base B with a limit of lemmas ended so, with these counts and this text of its log
abbrev pub IsEndedBy : Cnf → ℕ → Counts → List ℕ → End → Type 0
IsEndedBy B limit c text (finish.Model values) = IsModel B [] values × IsCounted B c text
IsEndedBy B limit c text finish.Refuted = Closes B [] text × IsBrief B (allowed limit + 1) text × IsCountedToEnd B c text
IsEndedBy B limit c text finish.Limit = IsHonest B (allowed limit) text × MeetsConflict B [] text × IsCounted B c text × (c.conflicts ≡ allowed limit)

-- a search ended, and its log is where `has` tells
pub record HasEnded (B : Cnf) (limit : ℕ) (has : List ℕ → Type 0) (e : Ending) : Type 0 where
  pub log : List ℕ
  pub there : has log
  pub ends : IsEndedBy B limit e.counts log e.end
  pub bytes : length log ≡ e.counts.bytes

-- ---- lines under other numbers
-- the text is the lines of the steps; that of a deletion begins with some clause number
abbrev pub AreLines : List ℕ → List Step → Type 0
AreLines text [] = text ≡ []
AreLines text (step ∷ steps) = (top : ℕ) × (rest : List ℕ) × IsClauseNumber top × (text ≡ line_of top step ++ rest) × AreLines rest steps

-- the file is lines of the steps that the log spells, under the numbers that their clauses have among `all`
pub record IsMoved (numbers : List ℕ) (all : ℕ) (gone : List Bool) (log file : List ℕ) : Type 0 where
  pub steps : List Step
  pub spelled : LineSpellsWithin 199999999 log steps
  pub avoid : All (Avoids gone) steps
  pub limits : All (IsStepWithin 199999999) (steps_behind numbers all steps)
  pub lines : AreLines file (steps_behind numbers all steps)

-- the file is the log, or its lines under the numbers of these places
abbrev pub IsMovedBy : Option Renumbering → List ℕ → List ℕ → Type 0
IsMovedBy None log file = file ≡ log
IsMovedBy (Some places) log file = IsMoved places.numbers.now places.all places.eliminated.now log file

-- how many clauses there are in all is a clause number, if lines get other numbers
abbrev pub CanNumber : Option Renumbering → Type 0
CanNumber None = Unit {0}
CanNumber (Some places) = IsClauseNumber places.all

-- ---- a search whose log is handed on
-- what the search has written was handed on: of a sink that had a text, as `old` tells, `new` tells that it has that and the file
pub record IsStreaming {P : Type 0} (is_ready : P → Clauses → TrailValue → Type 0) (attached : P → List ℕ) (B : Cnf) (limit : ℕ) (places : Option Renumbering) (old new : List ℕ → Type 0) (bytes : ℕ) (s : Stepwise P) : Type 0 where
  pub log : List ℕ
  pub file : List ℕ
  pub under : IsUnderWay is_ready attached B [] limit log s
  pub moved : IsMovedBy places log file
  pub long : length file ≡ bytes
  pub handed : (before : List ℕ) → old before → new (before ++ file)

-- the search has ended, and its log was handed on
pub record HasStreamed (B : Cnf) (limit : ℕ) (places : Option Renumbering) (old new : List ℕ → Type 0) (e : Ending) : Type 0 where
  pub log : List ℕ
  pub file : List ℕ
  pub moved : IsMovedBy places log file
  pub long : length file ≡ e.bytes
  pub counted : length log ≡ e.counts.bytes
  pub ends : IsEndedBy B limit e.counts log e.end
  pub handed : (before : List ℕ) → old before → new (before ++ file)

-- the counts of the log of a search behind lines that add resolvents: the formula has so many clauses, and `all` are there with the resolvents
pub record AreCountsBehind (all clauses : ℕ) (lines : List ℕ) (e : Ending) (c : Counts) : Type 0 where
  pub conflicts : c.conflicts ≡ e.counts.conflicts + (all - clauses)
  pub lemmas : c.lemmas ≡ e.counts.lemmas
  pub bytes : c.bytes ≡ length lines + e.bytes
