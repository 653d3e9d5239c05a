-- The numbers of the faults of a DRAT proof.
use Rattle.std.specs.Prelude.{ℕ}
use Rattle.drat_forms.specs.Faults
use Rattle.drat_elaborate.specs.declared.fault.Kind.{Kind}
use Rattle.drat_elaborate.specs.declared.fault.Kind.TheVariants.{Bytes, NotImplied, NotRefuted, TooLong, Refused, NoMemory}

abbrev pub fault_number : Kind → ℕ
fault_number (Bytes fault) = Faults.fault_number fault
fault_number NotImplied = 6
fault_number NotRefuted = 7
fault_number TooLong = 8
fault_number Refused = 9
fault_number NoMemory = 5
