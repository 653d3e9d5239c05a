-- The buffer of one step.
use Rattle.std.specs.Prelude.{if◌then◌else◌}
use Rattle.lrat_text.specs.declared.step.Step.{Step}
use Rattle.lrat_text.specs.declared.step.Step.TheVariants.{Add, Delete}
use Rattle.lrat_text.specs.declared.step_buffer.StepBuffer.TheInside.{Inside}

-- the step that a buffer's fields hold
abbrev pub step_held : Inside → Step
step_held b = if b.is_deletion then Delete b.numbers.items else Add b.id b.literals.items b.numbers.items b.groups
