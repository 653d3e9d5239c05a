-- What a command over leaves begins with, and what is told of an input and cubes that are refused.
use Rattle.std.specs.Prelude.{◌≡◌, ◌⊎◌, ℕ, Bool, List, [], Ok, Err, if◌then◌else◌}
use Rattle.dimacs.specs.logic.Cnf.{Cnf}
use Rattle.dimacs.specs.logic.Limits.{Limits}
use Rattle.dimacs.specs.text.Parser.{parse_within}
use Rattle.dimacs.specs.declared.fault.DimacsFault.{DimacsFault}
use Rattle.icnf.specs.Leaves.{Cube}
use Rattle.icnf.specs.Pieces.{SpellsTreeWithin, Tells}
use Rattle.icnf.specs.Parser.{parse_within as parse_cubes}
use Rattle.icnf.specs.declared.cubes_fault.CubesFault.{CubesFault}
use Rattle.icnf.specs.declared.cubes_fault.CubesFault.TheVariants.{Faulty, OtherFormula}
use Rattle.leaves.specs.Leaf.{Prints}
use Rattle.leaves.specs.SplitReader.{SplitsAsWithin}
use Rattle.commands.specs.declared.formula_tree.Begun.{Begun}
use Rattle.commands.specs.declared.formula_tree.Begun.TheVariants.{With, Refused}
use Rattle.reports.specs.Faults.{cubes_fault_text, input_fault_text, other_formula_text}
use Rattle.reports.specs.declared.report.Report.{Report}

-- the report tells the first fault of the input, read within the limits, with status 1
abbrev pub RefusesInput : Limits → List ℕ → Report → Type 0
RefusesInput L input r = (fault : DimacsFault) × (parse_within L input ≡ Err fault) × Prints 1 (input_fault_text fault) r

-- what is printed of cubes with this fault
abbrev pub cubes_text : CubesFault → List ℕ
cubes_text (Faulty fault) = cubes_fault_text fault
cubes_text OtherFormula = other_formula_text

-- the report tells the first fault of the cubes, read within the limits, or that they are of another formula, with status 1
abbrev pub RefusesCubes : Limits → Cnf → List ℕ → Report → Type 0
RefusesCubes L F cubes r = (fault : CubesFault) × Tells F (parse_cubes L cubes) (Err fault) × Prints 1 (cubes_text fault) r

-- the input spells a formula within the limits, and P holds of the formula
abbrev pub OfFormula : Limits → List ℕ → (Cnf → Type 0) → Type 0
OfFormula L input P = (F : Cnf) × (parse_within L input ≡ Ok F) × P F

-- what is found in an input and cubes within the limits: the formula with the tree that the cubes spell, or the report of the first fault
-- of the input, else of the cubes
abbrev pub Begins : Limits → List ℕ → List ℕ → Begun → Type 0
Begins L input cubes (With s) = OfFormula L input (λ F. SplitsAsWithin L F cubes s)
Begins L input cubes (Refused r) = RefusesInput L input r ⊎ OfFormula L input (λ F. RefusesCubes L F cubes r)

-- `shown` is the report, without its text if `quiet`
pub record IsHushed (quiet : Bool) (report shown : Report) : Type 0 where
  pub status : shown.status ≡ report.status
  pub proof : shown.proof ≡ report.proof
  pub text : shown.stdout.items ≡ (if quiet then [] else report.stdout.items)

-- P holds of the formula and the tree that an input and cubes spell; or the report tells the first fault of the input, else of the cubes,
-- without its text if `quiet`. The positions are: the limits, `quiet`, the input, the cubes, P, the report.
abbrev pub OfQuietTree : Limits → Bool → List ℕ → List ℕ → (Cnf → List Cube → Type 0) → Report → Type 0
OfQuietTree L quiet input cubes P r =
    ((told : Report) × IsHushed quiet told r × (RefusesInput L input told ⊎ OfFormula L input (λ F. RefusesCubes L F cubes told)))
    ⊎ OfFormula L input (λ F. (tree : List Cube) × SpellsTreeWithin L F cubes tree × P F tree)
