-- The numbers of the faults of a line.
use Rattle.std.specs.Prelude.{ℕ}
use Rattle.lrat_check.specs.ProofFaults.{no_memory}
use Rattle.lrat_check.specs.declared.line_checker.CheckFault.{CheckFault}
use Rattle.proof_lift.specs.declared.fault.LineFault.{LineFault}
use Rattle.proof_lift.specs.declared.fault.LineFault.TheVariants.{NumberNotRising, UnknownClause, Tautology, HintNotUnit, NotRup, NoMemory}

-- the number by which a fault is reported
abbrev pub line_fault_number : LineFault → ℕ
line_fault_number NumberNotRising = 2
line_fault_number UnknownClause = 3
line_fault_number Tautology = 4
line_fault_number HintNotUnit = 6
line_fault_number NotRup = 15
line_fault_number NoMemory = 14

-- the fault of the line of this number whose step is refused
abbrev pub line_refusal : LineFault → ℕ → CheckFault
line_refusal NoMemory line = no_memory
line_refusal fault line = record { number = line_fault_number fault; line = line; text = 0 }
