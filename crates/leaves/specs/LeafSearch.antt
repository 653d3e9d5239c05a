-- The report of a search under a leaf.
use Rattle.std.specs.Prelude.{◌≡◌, ℕ, Bool, List, [], ◌++◌, Option, Some, None, codes, decimal, if◌then◌else◌}
use Rattle.cube_solve.specs.Outcome.{IsRightOutcome}
use Rattle.cube_solve.specs.declared.outcome.Outcome.{Outcome}
use Rattle.cube_solve.specs.declared.outcome.Outcome.TheVariants.{Model, Refuted, Limit}
use Rattle.dimacs.specs.logic.Cnf.{Cnf}
use Rattle.dimacs.specs.text.Answer.{satisfied_lines}
use Rattle.icnf.specs.Leaves.{Cube}
use Rattle.leaves.specs.Leaf.{Prints, leaf_at, no_leaf_text}
use Rattle.leaves.specs.declared.leaf_search.SearchOptions.{SearchOptions}
use Rattle.reports.specs.declared.report.Report.{Report}

-- a `c` line, which is left out if `quiet` (`-q`)
abbrev pub shown : Bool → List ℕ → List ℕ
shown quiet line = if quiet then [] else line

-- the line of the leaf of this number, from 1, if it is closed
abbrev pub closed_line : ℕ → List ℕ
closed_line number = codes "c leaf " ++ decimal number ++ codes " closed\n"

-- the line of the leaf of this number, from 1, if its search has reached its limit
abbrev pub limit_line : ℕ → List ℕ
limit_line number = codes "c leaf " ++ decimal number ++ codes " limit\n"

-- a report of this status, with this text, and with this log, if there is one
pub record Hands (status : ℕ) (text : List ℕ) (log : Option (List ℕ)) (r : Report) : Type 0 where
  pub status_is : r.status ≡ status
  pub text_is : r.stdout.items ≡ text
  pub log_is : r.proof ≡ log

-- number of the leaf (from 1), options, outcome, report: the report of a search with this outcome: status 10 and the assignment; 20 and the
-- log that closes the leaf; 0 and an empty log
abbrev pub ReportsEnd : ℕ → SearchOptions → Outcome → Report → Type 0
ReportsEnd number s (Model values) r = Hands 10 (satisfied_lines values s.witness) None r
ReportsEnd number s (Refuted log) r = Hands 20 (shown s.quiet (closed_line number)) (Some log) r
ReportsEnd number s (Limit log) r = Hands 0 (shown s.quiet (limit_line number)) (Some []) r

-- formula, cube, number of the leaf (from 1), options, report: the report of a search under the cube, whose outcome is right
pub record RefutesCube (F : Cnf) (q : Cube) (number : ℕ) (s : SearchOptions) (r : Report) : Type 0 where
  pub outcome : Outcome
  pub right : IsRightOutcome F q s.limit outcome
  pub reports : ReportsEnd number s outcome r

-- formula, number of the leaf (from 1), options, its cube, the report: what `refute` reports of the leaf, or if there is no such leaf
abbrev pub RefutesAt : Cnf → ℕ → SearchOptions → Option Cube → Report → Type 0
RefutesAt F number s None r = Prints 1 (shown s.quiet no_leaf_text) r
RefutesAt F number s (Some q) r = RefutesCube F q number s r

-- what `refute` reports of the leaf of this number, from 1
abbrev pub RefutesLeaf : Cnf → List Cube → ℕ → SearchOptions → Report → Type 0
RefutesLeaf F leaves number s r = RefutesAt F number s (leaf_at leaves number) r
