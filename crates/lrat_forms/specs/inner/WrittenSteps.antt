-- The step writer as a consumer of lines: what it does with one line.
use Rattle.std.specs.Prelude.{◌≡◌, ℕ, List}
use Rattle.lrat_text.specs.Grammar.{SpellsStepWithin}
use Rattle.lrat_text.specs.declared.fault.TextFault.{TextFault}
use Rattle.lrat_text.specs.declared.step.Step.{Step}
use Rattle.lrat_forms.specs.inner.Codes.{AddsStep}
use Rattle.lrat_forms.specs.declared.binary_form.StepWriter.{StepWriter}

-- the step writer can always be given a line
abbrev pub MayTake : StepWriter → Type 0
MayTake w = Unit {0}

-- the step writer takes a line: it appends, in binary form, the step that the line spells, and the greatest variable that a line may have
-- stays
abbrev pub Writes : StepWriter → List ℕ → StepWriter → Type 0
Writes old line new = (step : Step) × SpellsStepWithin old.limit.most line step × AddsStep old.limit.most old.out.items new.out.items step × (new.limit.most ≡ old.limit.most)

-- the step writer refuses a line; nothing is said of its state or of the fault
abbrev pub Refuses : StepWriter → List ℕ → StepWriter → TextFault → Type 0
Refuses old line new fault = Unit {0}
