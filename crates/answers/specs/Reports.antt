-- The report of a solver's answer to a formula.
use Rattle.std.specs.Prelude.{◌≡◌, ◌↔◌, ℕ, Bool, not, List, ◌++◌, Option, Some, None, is_none, Result, Ok, Err, codes, decimal, if◌then◌else◌}
use Rattle.std.specs.List.{list_any, position_from}
use Rattle.dimacs.specs.logic.Cnf.{Cnf, Sat}
use Rattle.dimacs.specs.logic.Literal.{Clause}
use Rattle.dimacs.specs.logic.Propagation.{Assumed}
use Rattle.answers.specs.declared.fault.AnswerFault.{AnswerFault}
use Rattle.answers.specs.declared.report.ModelReport.{ModelReport}
use Rattle.answers.specs.Faults.{number_of_kind}
use Rattle.answers.specs.Grammar.{Verifies}
use Rattle.answers.specs.Pieces.{Progress}
use Rattle.answers.specs.Parse.{answer_of}

-- whether no literal of the clause is named
abbrev pub is_missed : Assumed → Clause → Bool
is_missed α C = not (list_any α C)

-- the number, from 1, of the first clause of which no literal is named
abbrev pub first_missed : Assumed → Cnf → Option ℕ
first_missed α F = position_from (is_missed α) 1 F.clauses

-- the lines for literals that are named: the argument is the number of the first clause that has none of them
abbrev pub clause_text : Option ℕ → List ℕ
clause_text None = codes "s VERIFIED\n"
clause_text (Some k) = codes "s NOT VERIFIED\nc clause " ++ decimal k ++ codes "\n"

-- the lines for an answer's first fault
abbrev pub fault_text : AnswerFault → List ℕ
fault_text f = codes "s NOT VERIFIED\nc line " ++ decimal f.line ++ codes " fault " ++ decimal (number_of_kind f.kind) ++ codes "\n"

-- the lines for the literals that an answer names, or for its first fault
abbrev pub report_text : Cnf → Result Assumed AnswerFault → List ℕ
report_text F (Ok named) = clause_text (first_missed named F)
report_text F (Err f) = fault_text f

-- the exit status: 0 if an answer names literals and no clause is missed, else 1
abbrev pub report_status : Cnf → Result Assumed AnswerFault → ℕ
report_status F (Ok named) = if is_none (first_missed named F) then 0 else 1
report_status F (Err f) = 1

-- a report's property: it is that of the literals that an answer names, or of its first fault
pub record IsReport (F : Cnf) (answer : Result Assumed AnswerFault) (report : ModelReport) : Type 0 where
  pub text : report.text.items ≡ report_text F answer
  pub status : report.status ≡ report_status F answer

-- a report's property: it is that of this text. Its status is 0 if and only if the text names literals of which each clause has one, and
-- then some assignment satisfies the formula
pub record IsModelReport (F : Cnf) (text : List ℕ) (report : ModelReport) : Type 0 where
  pub is_report : IsReport F (answer_of text) report
  pub verified : (report.status ≡ 0) ↔ Verifies text F
  pub satisfied : report.status ≡ 0 → (a : ℕ → Bool) × Sat a F

-- the value of a test: a formula, and the state of the reader of an answer
pub record Checking : Type 0 where
  pub formula : Cnf
  pub progress : Progress
