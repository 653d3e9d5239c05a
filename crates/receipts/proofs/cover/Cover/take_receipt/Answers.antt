use Rattle.std.proofs.Common.{◌++◌, ◌∙◌, List, refl, sym, ap, subst}
use Rattle.receipts.specs.ClosedLeaves.{closing_of}
use Rattle.receipts.specs.Contents.{lemmas_in, contents_of}
use Rattle.receipts.specs.declared.lemma.ClosingLemma.{ClosingLemma}
use Rattle.receipts.specs.Coverage.{HasTakenClauses}
use Rattle.receipts.specs.inner.NonEmpty.{is_some_lemma}
use Rattle.receipts.proofs.TakenLemmas.{clauses_of, holds_more, tells_more, tells_none}
use Rattle.receipts.proofs.cover.Cover.take_receipt.Goals as goal

pub returns-then-closes-clause-holds : goal.returns-then-closes-clause-holds
returns-then-closes-clause-holds c = λ F cubes texts text h spells only.
    holds_more F cubes texts text (contents_of c.args.receipt.now) c.args.self.now _ h spells only (c.is.ensures.0 c.if-not-is.false ∙ h.formula) refl
    (subst (λ (ls : List ClosingLemma). HasTakenClauses cubes (h.clauses ++ clauses_of (lemmas_in ls)) c.take_all.new.coverage) c.deref.ensures.value (c.in_ok-closes.ensures.covers cubes h.clauses h.covers))

pub returns-then-closes-clause-tells : goal.returns-then-closes-clause-tells
returns-then-closes-clause-tells c = λ F cubes texts text h spells only.
    tells_more F cubes texts text (contents_of c.args.receipt.now) c.args.self.now h spells (c.is.ensures.0 c.if-not-is.false ∙ h.formula)
    (ap (λ (ls : List ClosingLemma). is_some_lemma (closing_of cubes h.clauses (lemmas_in ls))) (sym c.deref.ensures.value) ∙ sym (c.in_ok-closes.ensures.told cubes h.clauses h.covers) ∙ c.if-closes.true)

pub returns-clause-holds : goal.returns-clause-holds
returns-clause-holds c = λ F cubes texts text h spells only.
    holds_more F cubes texts text (contents_of c.args.receipt.now) c.args.self.now _ h spells only (c.is.ensures.0 c.if-not-is.false ∙ h.formula) refl
    (subst (λ (ls : List ClosingLemma). HasTakenClauses cubes (h.clauses ++ clauses_of (lemmas_in ls)) c.take_all.new.coverage) c.deref.ensures.value (c.in_ok-closes.ensures.covers cubes h.clauses h.covers))

pub returns-clause-tells : goal.returns-clause-tells
returns-clause-tells c = λ F cubes texts text h spells only. (
  (contents_of c.args.receipt.now, spells, c.is.ensures.0 c.if-not-is.false ∙ h.formula),
  tells_none F cubes texts text (contents_of c.args.receipt.now) c.args.self.now h only
      (ap (λ (ls : List ClosingLemma). is_some_lemma (closing_of cubes h.clauses (lemmas_in ls))) (sym c.deref.ensures.value) ∙ sym (c.in_ok-closes.ensures.told cubes h.clauses h.covers) ∙ c.if-closes.false),
)
