use Rattle.std.proofs.Common.{◌∙◌, Ok, subst, sym}
use Rattle.shared_lines.specs.inner.Steps.{IsBare}
use Rattle.shared_lines.proofs.KindLemmas.{gives_step}
use Rattle.shared_lines.proofs.offer_buffer.read_addition.Goals as goal

pub returns-then-is_bare-clause-only : goal.returns-then-is_bare-clause-only
returns-then-is_bare-clause-only c = λ x bare s. gives_step x c.read_line_within.new.buffer (Ok tt) (c.in_ok-read_line_within.ensures.only x s)

pub returns-else-is_bare-clause-only : goal.returns-else-is_bare-clause-only
returns-else-is_bare-clause-only c = λ x bare s.
    let new = gives_step x c.read_line_within.new.buffer (Ok tt) (c.in_ok-read_line_within.ensures.only x s) in
    absurd (c.if-is_bare.ensures (subst IsBare (sym (c.as_ref.ensures ∙ new)) bare))
