-- What `share` tells of the file of an input, and of cubes, and what it leaves in the log of a worker.
use Rattle.std.specs.Prelude.{◌≡◌, ◌⊎◌, ℕ, Bool, List, [], Option, Some, None, codes}
use Rattle.commands.specs.FormulaTree.{IsHushed, OfFormula, RefusesInput}
use Rattle.dimacs.specs.logic.Cnf.{Cnf}
use Rattle.dimacs.specs.logic.Limits.{Limits}
use Rattle.dimacs.specs.text.Answer.{satisfied_lines}
use Rattle.icnf.specs.Leaves.{Cube}
use Rattle.leaves.specs.Leaf.{Prints, no_leaf_text}
use Rattle.leaves.specs.LeafSearch.{shown}
use Rattle.reports.specs.declared.report.Report.{Report}
use Rattle.sharing.specs.Sharing.{IsBeginning, IsRightShare}
use Rattle.sharing.specs.declared.run.Shared.{Shared}
use Rattle.sharing.specs.declared.run.Shared.TheVariants as end

-- the bytes are none; or the input spells a formula within the limits, and they are the beginning of the text of a log with imports over it
abbrev pub IsLogOver : Limits → List ℕ → List ℕ → Type 0
IsLogOver L input bytes = (bytes ≡ []) ⊎ OfFormula L input (λ F. IsBeginning F bytes)

-- what is reported of a worker that ended so; `c` lines are left out if `quiet`, and `v` lines except if `witness`
abbrev pub ReportsEnd : (quiet witness : Bool) → Shared → Report → Type 0
ReportsEnd quiet witness (end.Satisfied values) r = Prints 10 (satisfied_lines values witness) r
ReportsEnd quiet witness end.Closed r = Prints 20 (shown quiet (codes "c closed\n")) r
ReportsEnd quiet witness end.ClosedByOthers r = Prints 0 (shown quiet (codes "c closed by others\n")) r
ReportsEnd quiet witness end.Limit r = Prints 0 (shown quiet (codes "c limit\n")) r

-- A worker on a formula and a tree has come to this report: its log has bytes that are the text of a log with imports over the formula, whose
-- lines have closed each leaf that was told closed, and the end that is reported is right for the whole formula. The first two positions are:
-- that the log has some bytes, that some text was told.
pub record Shares (logged told : List ℕ → Type 0) (F : Cnf) (tree : List Cube) (quiet witness : Bool) (r : Report) : Type 0 where
  pub bytes : List ℕ
  pub text : List ℕ
  pub log : logged bytes
  pub tells : told text
  pub how : Shared
  pub right : IsRightShare F tree bytes text how
  pub reports : ReportsEnd quiet witness how r

-- a worker that begins with the leaf of this cube has come to this report; or there is no such leaf, which is told
abbrev pub SharesLeaf : (logged told : List ℕ → Type 0) → Option Cube → Cnf → List Cube → (quiet witness : Bool) → Report → Type 0
SharesLeaf logged told None F tree quiet witness r = Prints 1 (shown quiet no_leaf_text) r
SharesLeaf logged told (Some q) F tree quiet witness r = Shares logged told F tree quiet witness r

-- P holds of the formula that the input spells within the limits; or the report tells the first fault of the input, without its text if
-- `quiet`
abbrev pub OfQuietFormula : Limits → Bool → List ℕ → (Cnf → Type 0) → Report → Type 0
OfQuietFormula L quiet input P r = ((told : Report) × RefusesInput L input told × IsHushed quiet told r) ⊎ OfFormula L input P
