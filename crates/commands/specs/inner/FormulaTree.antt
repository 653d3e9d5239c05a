-- The state of a reader of cubes, after an input that spells a formula or has a fault.
use Rattle.std.specs.Prelude.{ℕ, List, Result, Ok, Err}
use Rattle.dimacs.specs.logic.Limits.{Limits}
use Rattle.dimacs.specs.text.Parser.{parse_within, no_memory}
use Rattle.dimacs.specs.text.Rows.{Fails}
use Rattle.dimacs.specs.declared.fault.DimacsFault.{DimacsFault}
use Rattle.leaves.specs.SplitReader.{HasReadTextWithin}
use Rattle.leaves.specs.declared.split.SplitReader.{SplitReader}
use Rattle.commands.specs.FormulaTree.{OfFormula}

-- the reader has read these bytes of the cubes of the formula that the input spells within the limits; if the input has a fault, it has
-- that alone, and cubes are passed over
abbrev pub ReadsTree : Limits → List ℕ → List ℕ → Result SplitReader DimacsFault → Type 0
ReadsTree L input cubes (Ok r) = OfFormula L input (λ F. HasReadTextWithin L F cubes r)
ReadsTree L input cubes (Err fault) = Fails no_memory fault (parse_within L input)
