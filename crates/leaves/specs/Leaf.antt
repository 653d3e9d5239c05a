-- The formula of a leaf of a splitting tree.
use Rattle.std.specs.Prelude.{◌≡◌, ℕ, zero, suc, List, [], ◌∷◌, ◌++◌, Option, Some, None, Result, Ok, Err, map, codes, slice_get}
use Rattle.dimacs.specs.logic.Cnf.{Cnf, FitsIn}
use Rattle.dimacs.specs.logic.Limits.{Limits}
use Rattle.dimacs.specs.text.Grammar.{SpellsWithin, spelling}
use Rattle.icnf.specs.Leaves.{Cube}
use Rattle.reports.specs.declared.report.Report.{Report}

-- the cube of the leaf of this number, from 1; None if there is no such leaf
abbrev pub leaf_at : List Cube → ℕ → Option Cube
leaf_at leaves zero = None
leaf_at leaves (suc i) = slice_get leaves i

-- the formula of a leaf: the formula's clauses, and then a unit clause for each literal of the cube
abbrev pub leaf_of : Cube → Cnf → Cnf
leaf_of q F = record { vars = F.vars; clauses = F.clauses ++ map (λ x. x ∷ []) q }

-- what is printed if there is no leaf of the number
abbrev pub no_leaf_text : List ℕ
no_leaf_text = codes "c no such leaf\n"

-- what is printed if the formula of a leaf would be above a limit
abbrev pub above_limit_text : List ℕ
above_limit_text = codes "c leaf above limit\n"

-- a report of this status, with this text and without a proof
pub record Prints (status : ℕ) (text : List ℕ) (r : Report) : Type 0 where
  pub status_is : r.status ≡ status
  pub text_is : r.stdout.items ≡ text
  pub no_proof : r.proof ≡ None

-- the formula is printed, status 0, and the text spells it within all limits that it fits into
pub record PrintsText (G : Cnf) (r : Report) : Type 0 where
  pub prints : Prints 0 (spelling G) r
  pub spells : (L : Limits) → FitsIn L G → SpellsWithin L (spelling G) G

-- the formula is printed, status 0, if it fits into the limits L; else the text says that it is above a limit, status 1
pub record PrintsFormula (L : Limits) (G : Cnf) (r : Report) : Type 0 where
  pub within : FitsIn L G → PrintsText G r
  pub above : ¬ (FitsIn L G) → Prints 1 above_limit_text r

-- what `leaf` prints, within these limits, of a cube, or if there is none
abbrev pub PrintsLeafOf : Limits → Cnf → Option Cube → Report → Type 0
PrintsLeafOf L F None r = Prints 1 no_leaf_text r
PrintsLeafOf L F (Some q) r = PrintsFormula L (leaf_of q F) r

-- what `leaf` prints, within these limits, of the leaf of a number, from 1
abbrev pub PrintsLeaf : Limits → Cnf → List Cube → ℕ → Report → Type 0
PrintsLeaf L F leaves number r = PrintsLeafOf L F (leaf_at leaves number) r

-- what comes of the formula of a leaf, within these limits, for its cube, or if there is none: the formula, which fits into the limits, or
-- the report that says why there is none
abbrev pub GivesLeafOf : Limits → Cnf → Option Cube → Result Cnf Report → Type 0
GivesLeafOf L F None (Ok G) = ⊥
GivesLeafOf L F None (Err r) = Prints 1 no_leaf_text r
GivesLeafOf L F (Some q) (Ok G) = (G ≡ leaf_of q F) × FitsIn L (leaf_of q F)
GivesLeafOf L F (Some q) (Err r) = ¬ (FitsIn L (leaf_of q F)) × Prints 1 above_limit_text r

-- what comes of the formula, within these limits, of the leaf of a number, from 1
abbrev pub GivesLeaf : Limits → Cnf → List Cube → ℕ → Result Cnf Report → Type 0
GivesLeaf L F leaves number found = GivesLeafOf L F (leaf_at leaves number) found
