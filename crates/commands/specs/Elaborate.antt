-- What `elaborate` tells of the files of an input and a DRAT proof.
use Rattle.std.specs.Prelude.{◌≡◌, ◌⊎◌, ℕ, List, Result, IfOk, is_ok, if◌then◌else◌}
use Rattle.commands.specs.FormulaTree.{OfFormula, RefusesInput}
use Rattle.dimacs.specs.logic.Cnf.{Cnf}
use Rattle.dimacs.specs.logic.Limits.{Limits}
use Rattle.drat_elaborate.specs.Reports.{elaborated_text, elaboration_text}
use Rattle.drat_elaborate.specs.declared.elaborator.Elaborated.{Elaborated}
use Rattle.drat_elaborate.specs.declared.fault.ElaborationFault.{ElaborationFault}
use Rattle.lrat_text.specs.Proof.{Accepts}
use Rattle.reports.specs.declared.report.Report.{Report}

-- what elaborating a DRAT proof of the formula reports: status 0 and an accepted LRAT proof, or a fault of the DRAT proof with status 1
pub record TellsElaboration (F : Cnf) (r : Report) : Type 0 where
  pub found : Result Elaborated ElaborationFault
  pub accepted : IfOk found (λ e. Accepts F e.text)
  pub text : r.stdout.items ≡ elaboration_text found
  pub status : r.status ≡ (if is_ok found then 0 else 1)
  pub proof : r.proof ≡ elaborated_text found

-- the report tells the first fault of the input, read within the limits, or what comes of a DRAT proof of its formula
abbrev pub Elaborates : Limits → List ℕ → Report → Type 0
Elaborates L input r = RefusesInput L input r ⊎ OfFormula L input (λ F. TellsElaboration F r)
