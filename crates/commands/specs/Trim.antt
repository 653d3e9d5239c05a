-- What `trim` tells of the files of an input and a proof.
use Rattle.std.specs.Prelude.{◌≡◌, ◌≢◌, ◌⊎◌, ℕ, List, Result, Err, is_ok, if◌then◌else◌}
use Rattle.commands.specs.FormulaTree.{OfFormula, RefusesInput}
use Rattle.commands.specs.declared.trim.TrimFiles.{TrimFiles}
use Rattle.dimacs.specs.logic.Cnf.{Cnf}
use Rattle.dimacs.specs.logic.Limits.{Limits}
use Rattle.lrat_check.specs.ProofFaults.{no_memory}
use Rattle.lrat_check.specs.declared.line_checker.CheckFault.{CheckFault}
use Rattle.lrat_forms.specs.Forms.{is_binary, text_form_within}
use Rattle.lrat_text.specs.Proof.{proof_top}
use Rattle.reports.specs.declared.report.Report.{Report}
use Rattle.lrat_trim.specs.Reports.{trim_text, trimmed_text}
use Rattle.lrat_trim.specs.TrimmedProof as of_text
use Rattle.lrat_trim.specs.declared.trimmer.Trimmed.{Trimmed}

-- what trimming a proof of the formula reports: status 0 and a trimmed proof if the proof is accepted, else its first fault, at a line or,
-- in binary form, at a step
pub record TellsTrimming (F : Cnf) (proof : List ℕ) (r : Report) : Type 0 where
  pub found : Result Trimmed CheckFault
  pub trims : of_text.Trims F (text_form_within (proof_top F) proof) found
  pub remembers : found ≢ Err no_memory
  pub text : r.stdout.items ≡ trim_text (is_binary proof) found
  pub status : r.status ≡ (if is_ok found then 0 else 1)
  pub trimmed : r.proof ≡ trimmed_text found

-- the report tells the first fault of the input, read within the limits, or what comes of a proof of its formula
abbrev pub Trims : Limits → List ℕ → List ℕ → Report → Type 0
Trims L input proof r = RefusesInput L input r ⊎ OfFormula L input (λ F. TellsTrimming F proof r)

-- the file that is written is none of the two that are read
abbrev pub IsApart : {D : Type 0} → (D → List ℕ → List ℕ → Type 0) → D → TrimFiles → Type 0
IsApart apart disk files = apart disk files.out.path.now files.input.now × apart disk files.out.path.now files.proof.now
