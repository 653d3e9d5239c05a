-- The text that `check` prints.
use Rattle.std.specs.Prelude.{ℕ, List, ◌++◌, Result, Ok, Err, codes, if◌then◌else◌}
use Rattle.dimacs.specs.logic.Cnf.{Cnf}
use Rattle.dimacs.specs.declared.fault.DimacsFault.{DimacsFault}
use Rattle.lrat_check.specs.ProofFaults.{check_of}
use Rattle.lrat_check.specs.declared.line_checker.CheckFault.{CheckFault}
use Rattle.proof_check.specs.FirstFault.{check_binary_of}
use Rattle.proof_check.specs.Forms.{is_binary}
use Rattle.reports.specs.Faults.{fault_text, step_fault_text, input_fault_text}

-- the text that is printed for this answer of a check of a text
abbrev pub answer_text : Result (Unit {0}) CheckFault → List ℕ
answer_text (Ok x) = codes "s VERIFIED\n"
answer_text (Err f) = codes "s NOT VERIFIED\nc " ++ fault_text f.line f.number

-- the text that is printed for this answer of a check in binary form, whose faults have a step instead of a line
abbrev pub binary_answer_text : Result (Unit {0}) CheckFault → List ℕ
binary_answer_text (Ok x) = codes "s VERIFIED\n"
binary_answer_text (Err f) = codes "s NOT VERIFIED\nc " ++ step_fault_text f.line f.number

-- `check_text parsed proof`: the text that is printed for an input, which spells a formula or has a fault, and the text of a proof
abbrev pub check_text : Result Cnf DimacsFault → List ℕ → List ℕ
check_text (Ok F) proof = answer_text (check_of F proof)
check_text (Err f) proof = input_fault_text f

-- `proof_text parsed proof`: the text that is printed for an input, which spells a formula or has a fault, and a proof in either form
abbrev pub proof_text : Result Cnf DimacsFault → List ℕ → List ℕ
proof_text (Ok F) proof = if is_binary proof then binary_answer_text (check_binary_of F proof) else answer_text (check_of F proof)
proof_text (Err f) proof = input_fault_text f
