-- The text that `cubes` prints.
use Rattle.std.specs.Prelude.{◌≡◌, ℕ, List, Result, Ok, Err}
use Rattle.cube_split.specs.SplitTree.{IsTreeOf}
use Rattle.dimacs.specs.logic.Cnf.{Cnf}
use Rattle.dimacs.specs.logic.Limits.{Limits}
use Rattle.dimacs.specs.declared.fault.DimacsFault.{DimacsFault}
use Rattle.icnf.specs.Leaves.{Cube}
use Rattle.icnf.specs.Grammar.{SpellsWithin, formula_of, spelling}
use Rattle.reports.specs.Faults.{input_fault_text}

-- the text is an iCNF text that spells, within the limits L, the clauses of the formula, and the cubes of its tree of this depth
pub record ShowsCubes (L : Limits) (F : Cnf) (depth : ℕ) (text : List ℕ) : Type 0 where
  pub cubes : List Cube
  pub tree : IsTreeOf F depth cubes
  pub text_is : text ≡ spelling F.clauses cubes
  pub spells : SpellsWithin L text (formula_of F.clauses) cubes

-- `PrintsCubes L parsed depth text`: the text that `cubes` prints: the clauses and cubes, or the fault of an input that spells no formula
abbrev pub PrintsCubes : Limits → Result Cnf DimacsFault → ℕ → List ℕ → Type 0
PrintsCubes L (Ok F) depth text = ShowsCubes L F depth text
PrintsCubes L (Err f) depth text = text ≡ input_fault_text f
