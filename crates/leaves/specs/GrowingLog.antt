-- A log that grows in its file while a block of leaves is searched.
use Rattle.std.specs.Prelude.{◌≡◌, ℕ, ◌+◌, ◌<◌, ◌≤◌, ◌⊎◌, Bool, List, [], ◌∷◌, ◌++◌, None, length, All, if◌then◌else◌}
use Rattle.std.specs.List.{list_all}
use Rattle.dimacs.specs.logic.Cnf.{Cnf}
use Rattle.dimacs.specs.text.Answer.{satisfied_lines}
use Rattle.dimacs.specs.text.Grammar.{Begins}
use Rattle.icnf.specs.Leaves.{Cube}
use Rattle.leaves.specs.BlockSearch.{IsLogOf, IsModelAt, SearchEnd, is_closed, search_lines}
use Rattle.leaves.specs.Leaf.{Prints, leaf_at, no_leaf_text}
use Rattle.leaves.specs.LeafSearch.{Hands, shown}
use Rattle.leaves.specs.declared.leaf_search.SearchOptions.{SearchOptions}
use Rattle.reports.specs.declared.refusal.Refusal.{Refusal}
use Rattle.reports.specs.declared.refusal.Refusal.TheVariants.{NoMemory, Writing}
use Rattle.reports.specs.declared.report.Report.{Report}

-- what stands after a leaf was searched: the bytes of the file, and all that was told so far
pub record Standing : Type 0 where
  pub log : List ℕ
  pub told : List ℕ

-- the standing with the bytes `log` in the file, and the text `told`
abbrev pub standing : List ℕ → List ℕ → Standing
standing log told = record { log = log; told = told }

-- the last of these standings; without one, `x`
abbrev pub last_behind : Standing → List Standing → Standing
last_behind x [] = x
last_behind x (y ∷ ys) = last_behind y ys

-- the last of these standings; without one, nothing stands
abbrev pub last_standing : List Standing → Standing
last_standing xs = last_behind (standing [] []) xs

-- after these standings come a log and a text that begin with those of the last standing
abbrev pub GoesOn : List Standing → List ℕ → List ℕ → Type 0
GoesOn before log told = Begins (last_standing before).log log × Begins (last_standing before).told told

-- why a leaf was not kept
abbrev pub IsNotKept : Refusal → Type 0
IsNotKept f = (f ≡ NoMemory) ⊎ (f ≡ Writing)

-- the file has a log over the formula of the searches so far, from the leaf `first` on, from 1. It closes each leaf that its search has
-- closed, and the text tells of each leaf how its search has ended.
pub record IsStanding (F : Cnf) (leaves : List Cube) (first : ℕ) (s : SearchOptions) (x : Standing) : Type 0 where
  pub endings : List SearchEnd
  pub logged : IsLogOf F leaves s.limit first endings x.log
  pub told_so : x.told ≡ search_lines s.quiet first endings

-- After each search that has ended, in order, the file had a log of the searches so far (`IsStanding`). Now it has that of all of them.
pub record HasGrown (stood : List Standing → Type 0) (F : Cnf) (leaves : List Cube) (first : ℕ) (s : SearchOptions) (endings : List SearchEnd) : Type 0 where
  pub standings : List Standing
  pub stands : stood standings
  pub each : All (IsStanding F leaves first s) standings
  pub many : length standings ≡ length endings
  pub logged : IsLogOf F leaves s.limit first endings (last_standing standings).log

-- the search under one of the leaves `first` to `last`, from 1, found an assignment, and those before it none: the report has status 10
-- and the assignment, and the file the log of the searches before
pub record GrowsToModel (stood : List Standing → Type 0) (F : Cnf) (leaves : List Cube) (first last : ℕ) (s : SearchOptions) (r : Report) : Type 0 where
  pub endings : List SearchEnd
  pub grown : HasGrown stood F leaves first s endings
  pub values : List Bool
  pub model : IsModelAt F (leaf_at leaves (first + length endings)) values
  pub within : first + length endings ≤ last
  pub reports : Hands 10 (satisfied_lines values s.witness) None r

-- every leaf from `first` to `last`, from 1, was searched, and no assignment found: the file has the log of all searches, and the report
-- has status 20 if all leaves are closed, and else 0. What is to be told was told before.
pub record GrowsToEnd (stood : List Standing → Type 0) (F : Cnf) (leaves : List Cube) (first last : ℕ) (s : SearchOptions) (r : Report) : Type 0 where
  pub endings : List SearchEnd
  pub grown : HasGrown stood F leaves first s endings
  pub count : first + length endings ≡ last + 1
  pub reports : Hands (if list_all is_closed endings then 20 else 0) [] None r

-- the searches under the leaves `first` to `last` ended with an assignment, or all without one
abbrev pub Grows : (List Standing → Type 0) → Cnf → List Cube → ℕ → ℕ → SearchOptions → Report → Type 0
Grows stood F leaves first last s r = GrowsToModel stood F leaves first last s r ⊎ GrowsToEnd stood F leaves first last s r

-- what `refute --grow` reports of the leaves from `first` to `last`, from 1, while the file grows; or that there are no such leaves, status 1
pub record GrowsOver (stood : List Standing → Type 0) (F : Cnf) (leaves : List Cube) (first last : ℕ) (s : SearchOptions) (r : Report) : Type 0 where
  pub inside : 0 < first → first ≤ last → last ≤ length leaves → Grows stood F leaves first last s r
  pub zero : first ≡ 0 → Prints 1 (shown s.quiet no_leaf_text) r
  pub none : last < first → Prints 1 (shown s.quiet no_leaf_text) r
  pub above : length leaves < last → Prints 1 (shown s.quiet no_leaf_text) r

-- after each search that has ended the file had a log of the searches so far, and it has that of the last one
pub record IsLeftStanding (stood : List Standing → Type 0) (F : Cnf) (leaves : List Cube) (first : ℕ) (s : SearchOptions) : Type 0 where
  pub standings : List Standing
  pub stands : stood standings
  pub each : All (IsStanding F leaves first s) standings

-- after each search that has ended the file had a log of the searches so far, except after the last one: then the file got a prefix of such
-- a log
pub record IsLeftCut (cut : List Standing → List ℕ → Type 0) (F : Cnf) (leaves : List Cube) (first : ℕ) (s : SearchOptions) : Type 0 where
  pub standings : List Standing
  pub next : Standing
  pub each : All (IsStanding F leaves first s) (standings ++ next ∷ [])
  pub front : List ℕ
  pub begins : Begins front next.log
  pub cuts : cut standings front

-- what is left of searches that end by an error
abbrev pub IsLeftGrown : (List Standing → Type 0) → (List Standing → List ℕ → Type 0) → Cnf → List Cube → ℕ → SearchOptions → Type 0
IsLeftGrown stood cut F leaves first s = IsLeftStanding stood F leaves first s ⊎ IsLeftCut cut F leaves first s
