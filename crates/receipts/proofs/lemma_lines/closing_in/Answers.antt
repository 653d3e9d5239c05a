use Rattle.std.proofs.Common.{◌∙◌, ◌==◌, List, ℕ, length, sym, ap, subst}
use Rattle.std.proofs.lemmas.Bool.{true≢false}
use Rattle.std.proofs.lemmas.Slice.Eq.{bytes_eq-Decides}
use Rattle.log_join.specs.ClosedLeaves.{Numbered}
use Rattle.receipts.specs.Contents.{lemma_of, lemmas_in}
use Rattle.receipts.specs.inner.LemmaLines.{HasReadLemmas}
use Rattle.receipts.proofs.KeptLemmas.{snoc_told}
use Rattle.receipts.proofs.StepLemmas.{at_none, at_some, empty_is_nil}
use Rattle.receipts.proofs.TextLemmas.{ends_within, lemma_within, no_end, no_lemma, only_these}
use Rattle.receipts.proofs.lemma_lines.closing_in.Goals as goal

pub returns-then-is_empty-clause-found : goal.returns-then-is_empty-clause-found
returns-then-is_empty-clause-found c = (
  ends_within c.args.text.now (lemmas_in c.loop-line.lemmas.items) c.loop-line.rest.now c.in-Some.line.now c.in-Some.later.now c.loop-line.invariant c.in-Some.ensures
      ((bytes_eq-Decides c.in-Some.line.now c.as_slice.result.now).0 (sym c.eq.ensures ∙ c.if-eq.true) ∙ c.as_slice.ensures)
      (empty_is_nil c.in-Some.later.now c.is_empty.result c.is_empty.ensures c.if-is_empty.true),
  c.loop-line.invariant.limits,
)

pub returns-then-is_empty-clause-only : goal.returns-then-is_empty-clause-only
returns-then-is_empty-clause-only c = λ lemmas steps e.
    (only_these c.args.text.now (lemmas_in c.loop-line.lemmas.items) c.loop-line.rest.now c.in-Some.line.now c.in-Some.later.now c.loop-line.invariant c.in-Some.ensures
    ((bytes_eq-Decides c.in-Some.line.now c.as_slice.result.now).0 (sym c.eq.ensures ∙ c.if-eq.true) ∙ c.as_slice.ensures) lemmas steps e).1

pub returns-then-eq-clause-only : goal.returns-then-eq-clause-only
returns-then-eq-clause-only c = λ lemmas steps e.
    let none = (only_these c.args.text.now (lemmas_in c.loop-line.lemmas.items) c.loop-line.rest.now c.in-Some.line.now c.in-Some.later.now c.loop-line.invariant c.in-Some.ensures
    ((bytes_eq-Decides c.in-Some.line.now c.as_slice.result.now).0 (sym c.eq.ensures ∙ c.if-eq.true) ∙ c.as_slice.ensures) lemmas steps e).0 in
    absurd (true≢false (sym (c.is_empty.ensures ∙ ap (λ (xs : List ℕ). length xs == 0) none) ∙ c.if-is_empty.false))

pub returns-in-None-clause-only : goal.returns-in-None-clause-only
returns-in-None-clause-only c = λ lemmas steps e.
    absurd (no_lemma c.args.text.now (lemmas_in c.loop-line.lemmas.items) c.loop-line.rest.now c.in-Some.line.now c.in-Some.later.now c.loop-line.invariant c.in-Some.ensures
    (λ same. true≢false (sym (c.eq.ensures ∙ (bytes_eq-Decides c.in-Some.line.now c.as_slice.result.now).1 (same ∙ sym c.as_slice.ensures)) ∙ c.if-eq.false))
    (at_none c.in_ok-lemma.field-0 _ c.in-None.is c.in_ok-lemma.ensures) lemmas steps e)

pub loop-line-preserved : goal.loop-line-preserved
loop-line-preserved c =
    let h = at_some _ c.in_ok-lemma.field-0 _ c.in-Some-2.lemma c.in-Some-2.is c.in_ok-lemma.ensures in
    subst (λ (ls : List Numbered). HasReadLemmas c.args.text.now ls c.in-Some.later.now)
    (sym (ap lemmas_in c.in_ok-push-in-Some-2.ensures.items ∙ snoc_told c.loop-line.lemmas.items c.in-Some-2.lemma))
    (lemma_within c.args.text.now (lemmas_in c.loop-line.lemmas.items) c.loop-line.rest.now c.in-Some.line.now c.in-Some.later.now (lemma_of c.in-Some-2.lemma) c.loop-line.invariant c.in-Some.ensures h.0 h.1)

pub returns-clause-only : goal.returns-clause-only
returns-clause-only c = λ lemmas steps e. absurd (no_end c.args.text.now (lemmas_in c.loop-line.lemmas.items) c.loop-line.rest.now c.loop-line.invariant c.in_default.ensures lemmas steps e)
