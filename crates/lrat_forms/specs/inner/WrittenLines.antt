-- The line writer as a consumer of steps: what it does with one step.
use Rattle.std.specs.Prelude.{◌≡◌, ◌++◌}
use Rattle.std.specs.declared.alloc.AllocError.{AllocError}
use Rattle.lrat_text.specs.Log.{top_after}
use Rattle.lrat_text.specs.WrittenLine.{line_of}
use Rattle.lrat_text.specs.declared.step.Step.{Step}
use Rattle.lrat_forms.specs.declared.line_writer.LineWriter.{LineWriter}

-- the line writer can always be given a step
abbrev pub MayTake : LineWriter → Type 0
MayTake w = Unit {0}

-- the line writer takes a step: it appends the step's line, and top becomes the number of the last addition after the step
abbrev pub Writes : LineWriter → Step → LineWriter → Type 0
Writes old step new = (new.out.items ≡ old.out.items ++ line_of old.top step) × (new.top ≡ top_after old.top step)

-- the line writer refuses a step for want of memory; nothing is said of its state then
abbrev pub Refuses : LineWriter → Step → LineWriter → AllocError → Type 0
Refuses old step new fault = Unit {0}
