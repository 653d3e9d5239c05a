-- The numbers of the faults of a DRAT proof's bytes.
use Rattle.std.specs.Prelude.{ℕ}
use Rattle.drat_forms.specs.declared.fault.DratFault.{DratFault}
use Rattle.drat_forms.specs.declared.fault.DratFault.TheVariants.{BadByte, VariableTooLarge, StepNotEnded, Empty, NoMemory}

abbrev pub fault_number : DratFault → ℕ
fault_number BadByte = 1
fault_number VariableTooLarge = 2
fault_number StepNotEnded = 3
fault_number Empty = 4
fault_number NoMemory = 5
