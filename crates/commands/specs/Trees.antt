-- What comes of the files of an input and cubes.
use Rattle.std.specs.Prelude.{◌≡◌, ◌⊎◌, ℕ, List}
use Rattle.commands.specs.FormulaTree.{OfFormula, RefusesCubes, RefusesInput}
use Rattle.dimacs.specs.logic.Cnf.{Cnf}
use Rattle.dimacs.specs.logic.Limits.{Limits}
use Rattle.icnf.specs.Leaves.{Cube}
use Rattle.icnf.specs.Pieces.{SpellsTreeWithin}
use Rattle.reports.specs.declared.report.Report.{Report}

-- P holds of the formula and the tree that an input and cubes spell within the limits; or the report tells the first fault of the input,
-- else of the cubes
abbrev pub OfTree : Limits → List ℕ → List ℕ → (Cnf → List Cube → Type 0) → Report → Type 0
OfTree L input cubes P r = RefusesInput L input r ⊎ OfFormula L input (λ F. RefusesCubes L F cubes r ⊎ ((tree : List Cube) × SpellsTreeWithin L F cubes tree × P F tree))
