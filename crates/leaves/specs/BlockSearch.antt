-- The report of searches under a block of leaves, which write one log.
use Rattle.std.specs.Prelude.{◌≡◌, ℕ, ◌+◌, ◌<◌, ◌≤◌, ◌⊎◌, Bool, true, false, List, [], ◌∷◌, ◌++◌, Option, Some, None, length, if◌then◌else◌}
use Rattle.std.specs.List.{flat_map, list_all}
use Rattle.cube_solve.specs.Outcome.{IsModel}
use Rattle.dimacs.specs.logic.Cnf.{Cnf}
use Rattle.dimacs.specs.text.Answer.{satisfied_lines}
use Rattle.icnf.specs.Leaves.{Cube}
use Rattle.leaves.specs.Join.{ClosesAsLog}
use Rattle.leaves.specs.Leaf.{Prints, leaf_at, no_leaf_text}
use Rattle.leaves.specs.LeafSearch.{Hands, closed_line, limit_line, shown}
use Rattle.leaves.specs.declared.leaf_search.SearchOptions.{SearchOptions}
use Rattle.lrat_text.specs.Grammar.{LineSpellsWithin}
use Rattle.lrat_text.specs.Log.{EndsAt, IsLog, additions, log_top}
use Rattle.lrat_text.specs.declared.step.Step.{Step}
use Rattle.reports.specs.declared.report.Report.{Report}

-- how a search without an assignment ends, with the steps that it adds to the log: a lemma closes the leaf, or the limit is reached
pub data SearchEnd : Type 0 where
  Closed : List Step → SearchEnd
  Limit : List Step → SearchEnd

-- the steps that a search adds to the log
abbrev pub own_part : SearchEnd → List Step
own_part (Closed own) = own
own_part (Limit own) = own

-- the steps that all searches add to the log, one search after the other
abbrev pub all_parts : List SearchEnd → List Step
all_parts endings = flat_map own_part endings

-- limit, cube, end of the search: the steps of a closed leaf end with a clause of negations of the cube's literals, after at most `limit`
-- lemmas; the steps of a search which has reached its limit have exactly `limit` lemmas
abbrev pub IsSearchEnd : ℕ → Cube → SearchEnd → Type 0
IsSearchEnd limit q (Closed own) = EndsAt q own × (additions own ≤ limit + 1)
IsSearchEnd limit q (Limit own) = additions own ≡ limit

-- limit, cube of the leaf, end of the search: there is such a leaf, and its search ended with this end
abbrev pub IsSearched : ℕ → Option Cube → SearchEnd → Type 0
IsSearched limit None e = ⊥
IsSearched limit (Some q) e = IsSearchEnd limit q e

-- cubes of the leaves, limit, number `n` (from 1), ends of searches: the searches under the leaf `n` and the leaves after it, one after the
-- other, ended with these ends
abbrev pub AreSearched : List Cube → ℕ → ℕ → List SearchEnd → Type 0
AreSearched leaves limit n [] = Unit {0}
AreSearched leaves limit n (e ∷ endings) = IsSearched limit (leaf_at leaves n) e × AreSearched leaves limit (n + 1) endings

-- the search has closed its leaf
abbrev pub is_closed : SearchEnd → Bool
is_closed (Closed own) = true
is_closed (Limit own) = false

-- the line of the leaf of the number `n`, from 1: that it is closed, or that its search has reached the limit; no line if `quiet`
abbrev pub search_line : Bool → ℕ → SearchEnd → List ℕ
search_line quiet n (Closed own) = shown quiet (closed_line n)
search_line quiet n (Limit own) = shown quiet (limit_line n)

-- the lines of the leaves from the number `n` on, from 1, one for each end of a search; no line if `quiet`
abbrev pub search_lines : Bool → ℕ → List SearchEnd → List ℕ
search_lines quiet n [] = []
search_lines quiet n (e ∷ endings) = search_line quiet n e ++ search_lines quiet (n + 1) endings

-- formula, cube of the leaf, log: there is such a leaf, and the log closes it
abbrev pub IsClosedAt : Cnf → Option Cube → List ℕ → Type 0
IsClosedAt F None log = ⊥
IsClosedAt F (Some q) log = ClosesAsLog F q log

-- formula, cube of the leaf, end of its search, log: if the search has closed the leaf, the log closes it
abbrev pub ClosesTold : Cnf → Option Cube → SearchEnd → List ℕ → Type 0
ClosesTold F q (Closed own) log = IsClosedAt F q log
ClosesTold F q (Limit own) log = Unit {0}

-- formula, cubes of the leaves, number `n` (from 1), ends of the searches from the leaf `n` on, log: the log closes each leaf that its
-- search has closed
abbrev pub ClosesAll : Cnf → List Cube → ℕ → List SearchEnd → List ℕ → Type 0
ClosesAll F leaves n [] log = Unit {0}
ClosesAll F leaves n (e ∷ endings) log = ClosesTold F (leaf_at leaves n) e log × ClosesAll F leaves (n + 1) endings log

-- the text `log` is a log over the formula, made of the steps of the searches under the leaves from the number `first` on, from 1; the
-- whole log closes each leaf that its search has closed
pub record IsLogOf (F : Cnf) (leaves : List Cube) (limit first : ℕ) (endings : List SearchEnd) (log : List ℕ) : Type 0 where
  pub spells : LineSpellsWithin (log_top F) log (all_parts endings)
  pub is_log : IsLog F (all_parts endings)
  pub searched : AreSearched leaves limit first endings
  pub closes : ClosesAll F leaves first endings log

-- formula, cube of the leaf, values: there is such a leaf, and the assignment satisfies the formula and makes the leaf's cube true
abbrev pub IsModelAt : Cnf → Option Cube → List Bool → Type 0
IsModelAt F None values = ⊥
IsModelAt F (Some q) values = IsModel F q values

-- the search under one of the leaves `first` to `last`, from 1, found an assignment, and the searches under the leaves before it found
-- none: the report has status 10 and the assignment
pub record FindsModel (F : Cnf) (leaves : List Cube) (first last : ℕ) (s : SearchOptions) (r : Report) : Type 0 where
  pub endings : List SearchEnd
  pub log : List ℕ
  pub before : IsLogOf F leaves s.limit first endings log
  pub values : List Bool
  pub model : IsModelAt F (leaf_at leaves (first + length endings)) values
  pub within : first + length endings ≤ last
  pub reports : Hands 10 (satisfied_lines values s.witness) None r

-- every leaf from `first` to `last`, from 1, was searched, and no assignment found: the report has the log, and status 20 if all leaves are
-- closed, and else 0
pub record SearchesAll (F : Cnf) (leaves : List Cube) (first last : ℕ) (s : SearchOptions) (r : Report) : Type 0 where
  pub endings : List SearchEnd
  pub log : List ℕ
  pub logged : IsLogOf F leaves s.limit first endings log
  pub count : first + length endings ≡ last + 1
  pub reports : Hands (if list_all is_closed endings then 20 else 0) (search_lines s.quiet first endings) (Some log) r

-- what `refute` reports of the leaves of the numbers from `first` to `last`, from 1: an assignment, or all searches; or that there are no
-- such leaves, status 1
pub record RefutesLeaves (F : Cnf) (leaves : List Cube) (first last : ℕ) (s : SearchOptions) (r : Report) : Type 0 where
  pub inside : 0 < first → first ≤ last → last ≤ length leaves → FindsModel F leaves first last s r ⊎ SearchesAll F leaves first last s r
  pub zero : first ≡ 0 → Prints 1 (shown s.quiet no_leaf_text) r
  pub none : last < first → Prints 1 (shown s.quiet no_leaf_text) r
  pub above : length leaves < last → Prints 1 (shown s.quiet no_leaf_text) r
