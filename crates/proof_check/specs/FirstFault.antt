-- The first fault of a proof in binary form. A fault has the number of its step, as the fault of a text has the number of its line. In the
-- arguments: refuted says whether the empty clause was added, M are the live clauses, top is the greatest number added so far, and n is the
-- number of the next step, from 1.
use Rattle.std.specs.Prelude.{ℕ, ◌+◌, Bool, false, List, [], ◌∷◌, length, Option, Some, None, Result, Ok}
use Rattle.dimacs.specs.logic.Cnf.{Cnf}
use Rattle.dimacs.specs.logic.ClauseMap.{ClauseMap, map_of}
use Rattle.lrat_text.specs.Faults.{fault_number}
use Rattle.lrat_text.specs.Proof.{proof_top}
use Rattle.lrat_text.specs.declared.fault.TextFault.{TextFault}
use Rattle.lrat_text.specs.declared.step.Step.{Step}
use Rattle.lrat_binary.specs.Parser.{ReadResult, steps_within}
use Rattle.lrat_check.specs.ProofFaults.{refused, check_end, check_line}
use Rattle.lrat_check.specs.declared.line_checker.CheckFault.{CheckFault}

-- the result after the last step that the bytes spell: the fault of the bytes after it, if any; otherwise the empty clause must have been
-- added
abbrev pub behind_steps : Bool → ℕ → Option TextFault → Result (Unit {0}) CheckFault
behind_steps refuted n (Some fault) = refused 1 n (fault_number fault)
behind_steps refuted n None = check_end refuted n []

-- the result of checking these steps, of which the first has the number n, and then of the fault of the bytes after them
abbrev pub check_steps : Bool → ClauseMap → ℕ → ℕ → List Step → Option TextFault → Result (Unit {0}) CheckFault
check_steps refuted M top n [] fault = behind_steps refuted n fault
check_steps refuted M top n (step ∷ steps) fault = check_line refuted M top n (Ok step) (λ refuted' M' top'. check_steps refuted' M' top' (n + 1) steps fault)

-- the result of checking what reading gave, steps and the fault after them, if any; the first step has the number n
abbrev pub check_reading : Bool → ClauseMap → ℕ → ℕ → ReadResult → Result (Unit {0}) CheckFault
check_reading refuted M top n reading = check_steps refuted M top n reading.0 reading.1

-- the first fault of the bytes as a proof in binary form that the formula F is unsatisfiable
abbrev pub check_binary_of : Cnf → List ℕ → Result (Unit {0}) CheckFault
check_binary_of F bytes = check_reading false (map_of F) (length F.clauses) 1 (steps_within (proof_top F) bytes)
