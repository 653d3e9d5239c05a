use Rattle.std.proofs.Common.{◌∙◌, List, ℕ, Ok, subst, sym}
use Rattle.lrat_text.specs.Grammar.{SpellsStepWithin}
use Rattle.lrat_text.specs.declared.step.Step.{Step}
use Rattle.shared_lines.specs.inner.Steps.{HasTwoHints}
use Rattle.shared_lines.proofs.KindLemmas.{gives_step, same_hints}
use Rattle.shared_lines.proofs.line_buffer.read_import.Goals as goal

pub returns-in-Some-clause-only : goal.returns-in-Some-clause-only
returns-in-Some-clause-only c = λ x p two s.
    let text = c.deref.ensures.value ∙ c.in_ok-join.ensures in
    let new = gives_step x c.read_line_within.new.buffer (Ok tt) (c.in_ok-read_line_within.ensures.only x (subst (λ (l : List ℕ). SpellsStepWithin c.args.most l x) (sym text) s)) in
    (new, same_hints x c.read_line_within.new.buffer p c.in-Some.numbers new two (subst (λ (t : Step). HasTwoHints t c.in-Some.numbers) c.as_ref.ensures c.in-Some.ensures))

pub returns-in-None-clause-only : goal.returns-in-None-clause-only
returns-in-None-clause-only c = λ x p two s.
    let text = c.deref.ensures.value ∙ c.in_ok-join.ensures in
    let new = gives_step x c.read_line_within.new.buffer (Ok tt) (c.in_ok-read_line_within.ensures.only x (subst (λ (l : List ℕ). SpellsStepWithin c.args.most l x) (sym text) s)) in
    absurd (c.in-None.ensures p (subst (λ (t : Step). HasTwoHints t p) (sym (c.as_ref.ensures ∙ new)) two))
