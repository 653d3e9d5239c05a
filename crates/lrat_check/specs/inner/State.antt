-- The state of a checker of proofs after a step that has no fault.
use Rattle.std.specs.FinMap.{insert}
use Rattle.lrat_text.specs.declared.step.Step.{Step}
use Rattle.lrat_text.specs.declared.step.Step.TheVariants.{Add, Delete}
use Rattle.lrat_check.specs.StepFaults.{removed, is_empty_clause}
use Rattle.lrat_check.specs.State.{State}

-- the state after a step that has no fault
abbrev pub after_step : State → Step → State
after_step s (Add id lits hints groups) = record s { live = insert s.live id lits; top = id; refuted = is_empty_clause lits }
after_step s (Delete ids) = record s { live = removed s.live ids }
