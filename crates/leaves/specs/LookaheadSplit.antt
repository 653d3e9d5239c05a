-- What `cubes --look` prints: trees that are grown by lookahead, and trees with a leaf that is cut in two by lookahead.
use Rattle.std.specs.Prelude.{◌≡◌, ℕ, zero, suc, List, Option, Some, None, Result, Ok, Err, slice_get}
use Rattle.dimacs.specs.logic.Cnf.{Cnf, FitsIn, greatest_in}
use Rattle.dimacs.specs.logic.Limits.{Limits}
use Rattle.dimacs.specs.declared.fault.DimacsFault.{DimacsFault}
use Rattle.icnf.specs.Leaves.{Cube, IsTree, branched}
use Rattle.icnf.specs.Grammar.{SpellsWithin, formula_of, spelling}
use Rattle.leaves.specs.Leaf.{Prints, no_leaf_text}
use Rattle.leaves.specs.LeafSplit.{cannot_split_text}
use Rattle.look_ahead.specs.Grown.{IsGrown, MayBeCut}
use Rattle.reports.specs.Faults.{input_fault_text}
use Rattle.reports.specs.declared.report.Report.{Report}

-- the text spells a formula's clauses, and the cubes of a tree that is grown on their variables, within all limits that the formula fits
-- into
pub record ShowsGrown (F : Cnf) (text : List ℕ) : Type 0 where
  pub cubes : List Cube
  pub tree : IsTree cubes
  pub grown : IsGrown (greatest_in F.clauses) cubes
  pub text_is : text ≡ spelling F.clauses cubes
  pub spells : (L : Limits) → FitsIn L F → SpellsWithin L (spelling F.clauses cubes) (formula_of F.clauses) cubes

-- what `cubes --look` prints of an input: of the formula that it spells, or its first fault
abbrev pub PrintsGrown : Result Cnf DimacsFault → List ℕ → Type 0
PrintsGrown (Ok F) text = ShowsGrown F text
PrintsGrown (Err f) text = text ≡ input_fault_text f

-- what is printed of the leaf at the index `place`, from 0, with the cube `q`: the tree with two branches instead of the leaf, on a
-- variable on which it may be cut; or that the leaf cannot be cut
pub data PrintsHalves (F : Cnf) (leaves : List Cube) (place : ℕ) (q : Cube) (r : Report) : Type 0 where
  splits : (v : ℕ) → MayBeCut (greatest_in F.clauses) q v → Prints 0 (spelling F.clauses (branched place v leaves)) r → PrintsHalves F leaves place q r
  stops : Prints 1 cannot_split_text r → PrintsHalves F leaves place q r

-- what `cubes --split --look` prints of the leaf at the index `place`, from 0, with this cube; or if there is no such leaf
abbrev pub PrintsHalvesOf : Cnf → List Cube → ℕ → Option Cube → Report → Type 0
PrintsHalvesOf F leaves place None r = Prints 1 no_leaf_text r
PrintsHalvesOf F leaves place (Some q) r = PrintsHalves F leaves place q r

-- what `cubes --split --look` prints of the leaf of this number, from 1
abbrev pub PrintsCut : Cnf → List Cube → ℕ → Report → Type 0
PrintsCut F leaves zero r = Prints 1 no_leaf_text r
PrintsCut F leaves (suc place) r = PrintsHalvesOf F leaves place (slice_get leaves place) r
