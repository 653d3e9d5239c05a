-- The faults of a proof, by the faults of its lines.
use Rattle.std.specs.Prelude.{ℕ}
use Rattle.lrat_check.specs.ProofFaults.{no_memory}
use Rattle.lrat_check.specs.declared.line_checker.CheckFault.{CheckFault}
use Rattle.lrat_text.specs.Faults.{fault_number}
use Rattle.sessions.specs.declared.fault.LineFault.{LineFault}
use Rattle.sessions.specs.declared.fault.LineFault.TheVariants.{Text, OfLine, NoMemory}

-- fault of a line, number of the line (from 1): the fault of the proof
abbrev pub refusal_of : LineFault → ℕ → CheckFault
refusal_of (Text fault) line = record { number = 1; line = line; text = fault_number fault }
refusal_of (OfLine number) line = record { number = number; line = line; text = 0 }
refusal_of NoMemory line = no_memory
