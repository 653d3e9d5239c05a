-- What a check of the files of an input and a proof reports.
use Rattle.std.specs.Prelude.{◌≡◌, ℕ, List}
use Rattle.dimacs.specs.logic.Limits.{Limits}
use Rattle.proof_check.specs.ProofChecks.{IsCheckReport}
use Rattle.proof_check.specs.Truth.{SpellsUnsatisfiable}
use Rattle.reports.specs.declared.report.Report.{Report}

-- what a check of the bytes of an input, within the limits, and of a proof reports: status 0 if and only if the proof is accepted, and then
-- the input spells an unsatisfiable formula
pub record Checks (L : Limits) (input proof : List ℕ) (r : Report) : Type 0 where
  pub report : IsCheckReport L input proof r
  pub truth : r.status ≡ 0 → SpellsUnsatisfiable L input
