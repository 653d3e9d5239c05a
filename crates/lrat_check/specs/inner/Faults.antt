-- Results of the code's calls, as ends of a propagation and as faults.
use Rattle.std.specs.Prelude.{Bool, true, false, Option, Some, None, Result, Ok, Err}
use Rattle.lrat_check.specs.declared.fault.StepFault.{StepFault}
use Rattle.dimacs.specs.logic.Propagation.{Assumed}
use Rattle.lrat_check.specs.StepFaults.{Walk, Through, Conflict, Fault}

-- how propagation along hints ended, from the result of the call and the literals assumed after it
abbrev pub walk_end : Result Bool StepFault → Assumed → Walk
walk_end (Ok false) α = Through α
walk_end (Ok true) α = Conflict
walk_end (Err fault) α = Fault fault

-- the fault of a result, if it is an Err
abbrev pub fault_in : {T : Type 0} → Result T StepFault → Option StepFault
fault_in (Ok x) = None
fault_in (Err fault) = Some fault
