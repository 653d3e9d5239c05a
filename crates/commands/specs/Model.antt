-- What a test of a solver's answer tells of the files of an input and an answer.
use Rattle.std.specs.Prelude.{◌≡◌, ◌↔◌, ◌⊎◌, ℕ, Bool, List, Option, codes}
use Rattle.answers.specs.Grammar.{Verifies}
use Rattle.answers.specs.Parse.{answer_of}
use Rattle.answers.specs.Reports.{report_status, report_text}
use Rattle.commands.specs.FormulaTree.{OfFormula, RefusesInput}
use Rattle.commands.specs.Known.{HoldsOf}
use Rattle.dimacs.specs.logic.Cnf.{Cnf, Sat}
use Rattle.dimacs.specs.logic.Limits.{Limits}
use Rattle.leaves.specs.Leaf.{Prints}
use Rattle.reports.specs.declared.report.Report.{Report}

-- what is printed of an answer that cannot be read
abbrev pub cannot_read_answer_text : List ℕ
cannot_read_answer_text = codes "c cannot read answer\n"

-- What a test of an answer reports. Status 0 if and only if the answer names literals of which each clause has one, and then some
-- assignment satisfies the formula. The lines are those of what the answer names, or of its first fault: `s VERIFIED` with status 0 alone.
pub record Tests (F : Cnf) (answer : List ℕ) (r : Report) : Type 0 where
  pub prints : Prints (report_status F (answer_of answer)) (report_text F (answer_of answer)) r
  pub verified : (r.status ≡ 0) ↔ Verifies answer F
  pub satisfied : r.status ≡ 0 → (a : ℕ → Bool) × Sat a F

-- the report tells what the bytes of an answer come to, or that the answer cannot be read
abbrev pub TellsAnswer : Cnf → Option (List ℕ) → Report → Type 0
TellsAnswer F answer r = Prints 1 cannot_read_answer_text r ⊎ HoldsOf answer (λ bytes. Tests F bytes r)

-- the report tells the first fault of the input, read within the limits, or what comes of an answer to its formula
abbrev pub TestsAnswer : Limits → List ℕ → Option (List ℕ) → Report → Type 0
TestsAnswer L input answer r = RefusesInput L input r ⊎ OfFormula L input (λ F. TellsAnswer F answer r)
