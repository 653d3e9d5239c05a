-- The first fault of the text of a proof. In the arguments: refuted says whether the empty clause was added, M are the live clauses, top is
-- the greatest number added so far, and line is the number of the line, from 1.
use Rattle.std.specs.Prelude.{◌≡◌, ◌⊎◌, ℕ, ◌+◌, Bool, true, false, List, [], ◌∷◌, length, Option, Some, None, Result, Ok, Err, if◌then◌else◌}
use Rattle.dimacs.specs.logic.Cnf.{Cnf}
use Rattle.dimacs.specs.logic.ClauseMap.{ClauseMap, map_of}
use Rattle.dimacs.specs.text.Words.{lines}
use Rattle.lrat_text.specs.Faults.{fault_number}
use Rattle.lrat_text.specs.Parser.{step_within}
use Rattle.lrat_text.specs.Proof.{proof_top}
use Rattle.lrat_text.specs.declared.fault.TextFault.{TextFault}
use Rattle.lrat_text.specs.declared.step.Step.{Step}
use Rattle.lrat_check.specs.StepFaults.{step_fault, live_after, top_after, adds_empty}
use Rattle.lrat_check.specs.FaultNumbers.{step_fault_number}
use Rattle.lrat_check.specs.declared.fault.StepFault.{StepFault}
use Rattle.lrat_check.specs.declared.line_checker.CheckFault.{CheckFault}

-- the result of a text with this fault: its number, the line, and the number of the text fault (else 0)
abbrev pub refused : ℕ → ℕ → ℕ → Result (Unit {0}) CheckFault
refused number line text = Err (record { number = number; line = line; text = text })

-- the result at the end of a text, of which the last argument follows the last LF: nothing must follow (else 1), and the text must have
-- shown what it should (else the fault of this number)
abbrev pub text_end : ℕ → Bool → ℕ → List ℕ → Result (Unit {0}) CheckFault
text_end number shown line [] = if shown then Ok tt else refused number line 0
text_end number shown line (b ∷ bs) = refused 1 line 2

-- the result at the end of a proof: nothing must follow the last LF (else 1), and the empty clause must have been added (else 13)
abbrev pub check_end : Bool → ℕ → List ℕ → Result (Unit {0}) CheckFault
check_end = text_end 13

-- the result of a proof from a step on: the step's fault, if any, otherwise later, the result of the lines after it
abbrev pub check_step : ℕ → Option StepFault → Result (Unit {0}) CheckFault → Result (Unit {0}) CheckFault
check_step line (Some fault) later = refused (step_fault_number fault) line 0
check_step line None later = later

-- The result of a proof from a line on, by what parsing the line gave: the line must spell a step (else 1), and this step must have no
-- fault, unless the empty clause was added before. Then the result is what later gives in the state after the line.
abbrev pub check_line : Bool → ClauseMap → ℕ → ℕ → Result Step TextFault → (Bool → ClauseMap → ℕ → Result (Unit {0}) CheckFault) → Result (Unit {0}) CheckFault
check_line refuted M top line (Err fault) later = refused 1 line (fault_number fault)
check_line true M top line (Ok step) later = later true M top
check_line false M top line (Ok step) later = check_step line (step_fault M top step) (later (adds_empty step) (live_after M step) (top_after top step))

-- The result of a text whose pieces between LFs are piece and then pieces, with variables up to most: the fault of its first line that has
-- one, or what check_end gives for the last piece, which no LF ends. The first piece is the line of this number.
unfoldable pub check_pieces : ℕ → Bool → ClauseMap → ℕ → ℕ → List ℕ → List (List ℕ) → Result (Unit {0}) CheckFault
check_pieces most refuted M top line piece [] = check_end refuted line piece
check_pieces most refuted M top line piece (next ∷ pieces) =
    check_line refuted M top line (step_within most piece) (λ refuted' M' top'. check_pieces most refuted' M' top' (line + 1) next pieces)

-- what check gives for the first piece and the others; a text has at least one piece
abbrev pub by_pieces : (List ℕ → List (List ℕ) → Result (Unit {0}) CheckFault) → List (List ℕ) → Result (Unit {0}) CheckFault
by_pieces check [] = check [] []
by_pieces check (piece ∷ pieces) = check piece pieces

-- the first fault of a text with variables up to most, whose first line has this number
unfoldable pub check_text : ℕ → Bool → ClauseMap → ℕ → ℕ → List ℕ → Result (Unit {0}) CheckFault
check_text most refuted M top line text = by_pieces (check_pieces most refuted M top line) (lines text)

-- the first fault of the text as a proof that the formula F is unsatisfiable
abbrev pub check_of : Cnf → List ℕ → Result (Unit {0}) CheckFault
check_of F text = check_text (proof_top F) false (map_of F) (length F.clauses) 1 text

-- the fault of a refusal of memory
abbrev pub no_memory : CheckFault
no_memory = record { number = 14; line = 0; text = 0 }

-- a call has the expected result, or answers that memory was refused
abbrev pub GivesCheck : Result (Unit {0}) CheckFault → Result (Unit {0}) CheckFault → Type 0
GivesCheck (Ok _) expected = expected ≡ Ok tt
GivesCheck (Err fault) expected = (fault ≡ no_memory) ⊎ (expected ≡ Err fault)
