use Rattle.std.proofs.Common.{◌≡◌, ◌∙◌, ◌==◌, ◌-◌, true, List, [], ◌∷◌, length, ap, sym, refl, inr}
use Rattle.std.proofs.lemmas.Bool.{true≢false}
use Rattle.std.proofs.lemmas.Result.{err_from_is_err_and}
use Rattle.receipts.specs.Contents.{lemmas_in}
use Rattle.receipts.specs.declared.lemma.ClosingLemma.{ClosingLemma}
use Rattle.receipts.proofs.EndLemmas.{closes_none, ended, has_met, has_read, tells, told_fault, well_ended}
use Rattle.receipts.proofs.LogReadLemmas.{met_now}
use Rattle.receipts.proofs.StepLemmas.{empty_is_nil}
use Rattle.receipts.proofs.receipt_builder.ReceiptBuilder.finish.Goals as goal

pub returns-in-Some-clause-fault : goal.returns-in-Some-clause-fault
returns-in-Some-clause-fault c = λ fault e F cubes bytes h.
    told_fault F bytes c.in-Some.fault fault c.of_check.result (met_now F bytes c.in-Some.fault (has_met F cubes bytes c.args.self c.in-Some.fault h c.in-Some.is)) c.of_check.ensures.memory c.of_check.ensures.log cc

pub returns-in-Err-clause-fault : goal.returns-in-Err-clause-fault
returns-in-Err-clause-fault c = λ fault e F cubes bytes h.
    told_fault F bytes c.in-Err.fault fault c.of_check-in-Err.result
    (inr (ended F bytes c.args.self c.as_slice.result.now c.end.result (has_read F cubes bytes c.args.self h c.in_default.is) c.as_slice.ensures.value c.as_slice.ensures.open c.end.ensures ∙ c.in-Err.is))
    c.of_check-in-Err.ensures.memory c.of_check-in-Err.ensures.log cc

pub returns-in_err-closing-clause-fault : goal.returns-in_err-closing-clause-fault
returns-in_err-closing-clause-fault c = λ fault e F cubes bytes h.
    let p = err_from_is_err_and c.from_residual.result c.from_residual.ensures.1 in
    let m = c.in_err-closing.ensures.memory in
    let q = p.1 in
    let s = p.2 in
    absurd cc

pub returns-in_err-closing-clause-none : goal.returns-in_err-closing-clause-none
returns-in_err-closing-clause-none c = λ e F cubes bytes h.
    let p = err_from_is_err_and c.from_residual.result c.from_residual.ensures.1 in
    let m = c.in_err-closing.ensures.memory in
    let q = p.1 in
    let s = p.2 in
    absurd cc

pub returns-then-is_empty-clause-none : goal.returns-then-is_empty-clause-none
returns-then-is_empty-clause-none c = λ e F cubes bytes h.
    closes_none F cubes bytes c.args.self (lemmas_in c.in_ok-closing.closing.items)
    (well_ended F cubes bytes c.args.self c.as_slice.result.now (has_read F cubes bytes c.args.self h c.in_default.is) c.as_slice.ensures.value (sym c.end.ensures ∙ c.in-Ok.is))
    (c.in_ok-closing.ensures.found cubes h.covers)
    (ap lemmas_in (empty_is_nil c.in_ok-closing.closing.items c.is_empty.result (c.is_empty.ensures ∙ ap (λ n. n == 0) c.in_ok-closing.closing.ok.0) c.if-is_empty.true))

pub returns-clause-receipt : goal.returns-clause-receipt
returns-clause-receipt c = λ F cubes bytes h.
    let read = has_read F cubes bytes c.args.self h c.in_default.is in
    tells F cubes bytes c.args.self (record { formula = c.args.self.formula.bytes; log = c.finalize-digest.result; lemmas = c.top.result - c.base.result; bytes = c.args.self.bytes; closing = lemmas_in c.in_ok-closing.closing.items })
    (well_ended F cubes bytes c.args.self c.as_slice.result.now read c.as_slice.ensures.value (sym c.end.ensures ∙ c.in-Ok.is))
    h.formula (c.finalize-digest.ensures bytes read.hashed)
    (ap (λ x. x - c.base.result) c.top.ensures.value ∙ ap (λ x. c.args.self.checker.top - x) c.base.ensures.value)
    read.counted (c.in_ok-closing.ensures.found cubes h.covers)
    (λ none. true≢false (sym (c.is_empty.ensures ∙ ap (λ n. n == 0) c.in_ok-closing.closing.ok.0 ∙ some_empty c.in_ok-closing.closing.items none) ∙ c.if-is_empty.false))
  where
    some_empty : (xs : List ClosingLemma) → lemmas_in xs ≡ [] → (length xs == 0) ≡ true
    some_empty [] e = refl
    some_empty (x ∷ xs) e = absurd cc
