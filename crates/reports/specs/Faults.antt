-- The lines that are printed of a faulty input and of refused cubes.
use Rattle.std.specs.Prelude.{ℕ, List, ◌++◌, codes, decimal}
use Rattle.dimacs.specs.text.Faults.{number_of_kind}
use Rattle.dimacs.specs.declared.fault.DimacsFault.{DimacsFault}
use Rattle.icnf.specs.Faults.{number_of_kind as number_of_cubes_kind}
use Rattle.icnf.specs.declared.fault.IcnfFault.{IcnfFault}

-- a place, the number `at`, and the number of a fault
abbrev pub fault_at : List ℕ → ℕ → ℕ → List ℕ
fault_at place at number = place ++ decimal at ++ codes " fault " ++ decimal number ++ codes "\n"

-- the line and the number of a fault
abbrev pub fault_text : ℕ → ℕ → List ℕ
fault_text line number = fault_at (codes "line ") line number

-- the step and the number of a fault
abbrev pub step_fault_text : ℕ → ℕ → List ℕ
step_fault_text step number = fault_at (codes "step ") step number

-- the line that is printed of an input with this fault
abbrev pub input_fault_text : DimacsFault → List ℕ
input_fault_text f = codes "c input " ++ fault_text f.line (number_of_kind f.kind)

-- the line that is printed of cubes with this fault
abbrev pub cubes_fault_text : IcnfFault → List ℕ
cubes_fault_text f = codes "c cubes " ++ fault_text f.line (number_of_cubes_kind f.kind)

-- the line that is printed of cubes whose clauses are not the formula's
abbrev pub other_formula_text : List ℕ
other_formula_text = codes "c cubes of another formula\n"
