use Rattle.std.proofs.Common.{◌≡◌, ◌∙◌, ◌==◌, true, false, ℕ, List, [], length, sym, ap, subst}
use Rattle.std.proofs.lemmas.Bool.{true≢false}
use Rattle.dimacs.specs.logic.Literal.{Clause}
use Rattle.lrat_text.specs.Grammar.{IsStep, SpellsStep}
use Rattle.lrat_text.specs.Steps.{step_of}
use Rattle.lrat_text.specs.WrittenLine.{line_text}
use Rattle.lrat_text.specs.declared.step.Step.TheVariants.{Add}
use Rattle.lrat_text.specs.declared.step.StepRef.{StepRef}
use Rattle.receipts.proofs.StepLemmas.{deletion_is_none, empty_is_nil, grouped_is_none, hinted_is_none, none_long, none_of, some_long, unwritten_is_none, written_is}
use Rattle.receipts.proofs.lemma_lines.lemma_of_step.Goals.{then-not-is_empty-via-then-not-is_empty, then-not-is_empty-via-else-not-is_empty+then-len-gt0, then-not-is_empty-via-else-not-is_empty+else-len-gt0+then-is_none}
use Rattle.receipts.proofs.lemma_lines.lemma_of_step.Goals as goal

pub returns-in_default : goal.returns-in_default
returns-in_default c = λ l small e.
    deletion_is_none c.args.line.now c.in_default.field-0.now (subst (λ (s : StepRef). SpellsStep c.args.line.now (step_of s)) c.in_default.is c.requires) l small e

pub returns-then-not-is_empty : goal.returns-then-not-is_empty
returns-then-not-is_empty c = λ l small e.
    let spelled : SpellsStep c.args.line.now (Add c.in-Add.id c.in-Add.lits.now c.in-Add.hints.now c.in-Add.groups.now) = subst (λ (s : StepRef). SpellsStep c.args.line.now (step_of s)) c.in-Add.is c.requires in
    elim c.then-not-is_empty.branch [
      | then-not-is_empty-via-then-not-is_empty w ↦
          hinted_is_none c.args.line.now c.in-Add.id c.in-Add.lits.now c.in-Add.hints.now c.in-Add.groups.now spelled
          (λ none. true≢false (sym (c.is_empty.ensures ∙ ap (λ (xs : List ℕ). length xs == 0) none) ∙ w.if-not-is_empty.true)) l small e
      | then-not-is_empty-via-else-not-is_empty+then-len-gt0 w ↦
          grouped_is_none c.args.line.now c.in-Add.id c.in-Add.lits.now c.in-Add.hints.now c.in-Add.groups.now spelled
          (some_long c.in-Add.groups.now w.len.result w.len.ensures.value w.if-len-gt0.true) l small e
      | then-not-is_empty-via-else-not-is_empty+else-len-gt0+then-is_none w ↦
          unwritten_is_none c.args.line.now (Add c.in-Add.id c.in-Add.lits.now c.in-Add.hints.now c.in-Add.groups.now) w.canonical_id.result spelled (w.canonical_id.ensures _ spelled)
          (none_of w.canonical_id.result w.is_none.result true w.is_none.ensures w.if-is_none.true) l small e
    ]

pub returns : goal.returns
returns c =
    let spelled : SpellsStep c.args.line.now (Add c.in-Add.id c.in-Add.lits.now c.in-Add.hints.now c.in-Add.groups.now) = subst (λ (s : StepRef). SpellsStep c.args.line.now (step_of s)) c.in-Add.is c.requires in
    subst (λ (C : Clause). (c.args.line.now ≡ line_text c.in-Add.id (Add c.in-Add.id C [] [])) × IsStep (Add c.in-Add.id C [] [])) (sym c.in_ok-clause.ensures.items)
    (written_is c.args.line.now c.in-Add.id c.in-Add.lits.now c.in-Add.hints.now c.in-Add.groups.now c.canonical_id.result spelled
    (empty_is_nil c.in-Add.hints.now c.is_empty.result c.is_empty.ensures c.if-not-is_empty.false)
    (none_long c.in-Add.groups.now c.len.result c.len.ensures.value c.if-len-gt0.false)
    (c.canonical_id.ensures _ spelled) (none_of c.canonical_id.result c.is_none.result false c.is_none.ensures c.if-is_none.false))
