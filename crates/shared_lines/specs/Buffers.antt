-- What the buffers hold.
use Rattle.std.specs.Prelude.{ℕ, List, []}
use Rattle.lrat_text.specs.declared.step.Step.{Step}
use Rattle.lrat_text.specs.declared.step.Step.TheVariants.{Add, Delete}
use Rattle.shared_lines.specs.Lines.{Line, Lemma, Deletion, Name, Import, Clock, Offered}
use Rattle.shared_lines.specs.declared.line_buffer.Kind.{Kind}
use Rattle.shared_lines.specs.declared.line_buffer.Kind.TheVariants as kind

-- the line, from its kind, the step and the name in a buffer
abbrev pub line_held : Kind → Step → List ℕ → Line
line_held kind.Step (Add id C hints groups) name = Lemma id C hints
line_held kind.Step (Delete ids) name = Deletion ids
line_held (kind.Import log there) (Add id C hints groups) name = Import id C log there
line_held (kind.Import log there) (Delete ids) name = Deletion ids
line_held (kind.Name number) step name = Name number name
line_held (kind.Clock time) step name = Clock time

-- the offer, from its time and the step in a buffer
abbrev pub offer_held : ℕ → Step → Offered
offer_held time (Add id C hints groups) = record { time = time; number = id; clause = C }
offer_held time (Delete ids) = record { time = time; number = 0; clause = [] }
