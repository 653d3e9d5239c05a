use Rattle.std.proofs.Common.{◌∙◌, Ok, subst, sym}
use Rattle.shared_lines.specs.inner.Steps.{HasNoGroup}
use Rattle.shared_lines.proofs.KindLemmas.{gives_step}
use Rattle.shared_lines.proofs.line_buffer.read_step.Goals as goal

pub returns-then-has_no_group-clause-only : goal.returns-then-has_no_group-clause-only
returns-then-has_no_group-clause-only c = λ x none s. gives_step x c.read_line_within.new.buffer (Ok tt) (c.in_ok-read_line_within.ensures.only x s)

pub returns-else-has_no_group-clause-only : goal.returns-else-has_no_group-clause-only
returns-else-has_no_group-clause-only c = λ x none s.
    let new = gives_step x c.read_line_within.new.buffer (Ok tt) (c.in_ok-read_line_within.ensures.only x s) in
    absurd (c.if-has_no_group.ensures (subst HasNoGroup (sym (c.as_ref.ensures ∙ new)) none))
