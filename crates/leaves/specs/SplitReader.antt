-- The reader of a formula's tree: the bytes that it has read, and its answer.
use Rattle.std.specs.Prelude.{◌≡◌, ◌⊎◌, ℕ, List, Result, Ok, Err}
use Rattle.dimacs.specs.logic.Cnf.{Cnf}
use Rattle.dimacs.specs.logic.Limits.{Limits, written}
use Rattle.icnf.specs.Pieces.{HasReadWithin, SpellsTreeWithin, Tells}
use Rattle.icnf.specs.Parser.{no_memory, parse_within}
use Rattle.icnf.specs.declared.cubes_fault.CubesFault.{CubesFault}
use Rattle.icnf.specs.declared.cubes_fault.CubesFault.TheVariants.{Faulty}
use Rattle.leaves.specs.declared.split.Split.{Split}
use Rattle.leaves.specs.declared.split.SplitReader.{SplitReader}

-- the reader has read these bytes of a text within these limits for the formula
pub record HasReadTextWithin (L : Limits) (F : Cnf) (bytes : List ℕ) (r : SplitReader) : Type 0 where
  pub formula : r.formula ≡ F
  pub read : HasReadWithin L F r.reader bytes

-- the same within the written limits
abbrev pub HasReadText : Cnf → List ℕ → SplitReader → Type 0
HasReadText F bytes r = HasReadTextWithin written F bytes r

-- the text spells the clauses of the formula and the cubes of the tree within these limits
pub record SplitsAsWithin (L : Limits) (F : Cnf) (text : List ℕ) (s : Split) : Type 0 where
  pub formula : s.formula ≡ F
  pub tree : SpellsTreeWithin L F text s.tree

-- limits, formula, text, the answer: the formula with the tree that the text spells within the limits; or the text's first fault; or that
-- its clauses are not the formula's; or that memory was refused
abbrev pub TellsSplitWithin : Limits → Cnf → List ℕ → Result Split CubesFault → Type 0
TellsSplitWithin L F text (Ok s) = SplitsAsWithin L F text s
TellsSplitWithin L F text (Err fault) = (fault ≡ Faulty no_memory) ⊎ Tells F (parse_within L text) (Err fault)
