-- The numbers of the faults of a line.
use Rattle.std.specs.Prelude.{ℕ}
use Rattle.lrat_text.specs.declared.fault.TextFault.{TextFault}
use Rattle.lrat_text.specs.declared.fault.TextFault.TheVariants.{BadToken, LineNotEnded, MissingZero, NumberTooLarge, NoMemory}

-- the number of a line's fault, 1 to 5
abbrev pub fault_number : TextFault → ℕ
fault_number BadToken = 1
fault_number LineNotEnded = 2
fault_number MissingZero = 3
fault_number NumberTooLarge = 4
fault_number NoMemory = 5
