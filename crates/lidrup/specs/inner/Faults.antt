-- The faults of lines as numbers.
use Rattle.std.specs.Prelude.{ℕ}
use Rattle.lrat_check.specs.ProofFaults.{no_memory}
use Rattle.lrat_check.specs.declared.line_checker.CheckFault.{CheckFault}
use Rattle.lrat_text.specs.Faults.{fault_number}
use Rattle.lrat_text.specs.declared.fault.TextFault.{TextFault}
use Rattle.lrat_text.specs.declared.fault.TextFault.TheVariants.{NoMemory as NoText}
use Rattle.lidrup.specs.declared.fault.LineFault.{LineFault}
use Rattle.lidrup.specs.declared.fault.LineFault.TheVariants.{Text, NumberNotRising, UnknownClause, OfLog, NoMemory}

-- the fault's number, and the number of the fault of the text (0 if it is no fault of the text)
abbrev pub numbers_of : LineFault → ℕ × ℕ
numbers_of (Text fault) = (1, fault_number fault)
numbers_of NumberNotRising = (2, 0)
numbers_of UnknownClause = (3, 0)
numbers_of (OfLog number) = (number, 0)
numbers_of NoMemory = (14, 0)

-- the fault of the line of this number that is refused
abbrev pub line_refusal : LineFault → ℕ → CheckFault
line_refusal NoMemory line = no_memory
line_refusal fault line = record { number = (numbers_of fault).0; line = line; text = (numbers_of fault).1 }

-- the fault of a line that cannot be parsed
abbrev pub fault_of_text : TextFault → LineFault
fault_of_text NoText = NoMemory
fault_of_text fault = Text fault
