-- Borrowed steps, as steps.
use Rattle.lrat_text.specs.declared.step.Step.{Step}
use Rattle.lrat_text.specs.declared.step.Step.TheVariants as owned
use Rattle.lrat_text.specs.declared.step.StepRef.{StepRef}
use Rattle.lrat_text.specs.declared.step.StepRef.TheVariants as lent

-- the step of which a StepRef borrows the lists
abbrev pub step_of : StepRef → Step
step_of (lent.Add id lits hints groups) = owned.Add id lits.now hints.now groups.now
step_of (lent.Delete ids) = owned.Delete ids.now
