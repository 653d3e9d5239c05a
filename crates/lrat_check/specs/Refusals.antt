-- The faults that are known before there is a step to test: of a line that spells no step, and of a piece.
use Rattle.std.specs.Prelude.{ℕ}
use Rattle.lrat_text.specs.declared.fault.TextFault.{TextFault}
use Rattle.lrat_text.specs.declared.fault.TextFault.TheVariants.{BadToken, LineNotEnded, MissingZero, NumberTooLarge, NoMemory}
use Rattle.lrat_text.specs.declared.line_splitter.PieceFault.{PieceFault}
use Rattle.lrat_text.specs.declared.line_splitter.PieceFault.TheVariants.{NoMemory as NoPlace, Line}
use Rattle.lrat_check.specs.ProofFaults.{no_memory}
use Rattle.lrat_check.specs.declared.line_checker.CheckFault.{CheckFault}

-- the fault of a line that spells no step
abbrev pub text_refusal : TextFault → ℕ → CheckFault
text_refusal BadToken line = record { number = 1; line = line; text = 1 }
text_refusal LineNotEnded line = record { number = 1; line = line; text = 2 }
text_refusal MissingZero line = record { number = 1; line = line; text = 3 }
text_refusal NumberTooLarge line = record { number = 1; line = line; text = 4 }
text_refusal NoMemory line = no_memory

-- the fault of a piece that is not taken to its end: that of a line, or that memory was refused
abbrev pub piece_refusal : PieceFault CheckFault → CheckFault
piece_refusal NoPlace = no_memory
piece_refusal (Line fault) = fault
