-- The numbers of the faults of a log's step, and what a refused deletion has deleted.
use Rattle.std.specs.Prelude.{◌≡◌, ℕ, ◌≤◌, List, Option, Some, None, Result, Ok, Err, length, take}
use Rattle.dimacs.specs.logic.ClauseMap.{ClauseMap}
use Rattle.lrat_check.specs.StepFaults.{removed}
use Rattle.lrat_check.specs.Logs.{log_deletion_fault}
use Rattle.lrat_check.specs.FaultNumbers.{step_fault_number}
use Rattle.lrat_check.specs.declared.log.LogFault.{LogFault}
use Rattle.lrat_check.specs.declared.log.LogFault.TheVariants.{OfStep, NotRup, DeletesBase}

-- the number of the fault of a log's step
abbrev pub log_fault_number : LogFault → ℕ
log_fault_number (OfStep fault) = step_fault_number fault
log_fault_number NotRup = 15
log_fault_number DeletesBase = 16

-- the number of a result's fault, if it is an Err
abbrev pub number_in : {A : Type 0} → Result A LogFault → Option ℕ
number_in (Ok x) = None
number_in (Err fault) = Some (log_fault_number fault)

-- the first cut numbers of ids have no fault as a deletion over a base of b clauses, and deleting them leads from the live clauses old to
-- new
pub record IsCutAt (b : ℕ) (old : ClauseMap) (ids : List ℕ) (cut : ℕ) (new : ClauseMap) : Type 0 where
  pub within : cut ≤ length ids
  pub none : log_deletion_fault b old (take cut ids) ≡ None
  pub left : new ≡ removed old (take cut ids)
