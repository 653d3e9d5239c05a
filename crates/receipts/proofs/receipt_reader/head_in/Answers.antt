use Rattle.receipts.proofs.HeadLemmas.{bytes_tail, formula_step, lemmas_step, lemmas_tail, log_step, log_tail, whole_head}
use Rattle.receipts.proofs.receipt_reader.head_in.Goals as goal

pub returns-in_default : goal.returns-in_default
returns-in_default c = λ h rest is e. c.in_default.ensures h.formula.bytes (log_tail h rest) is.formula e

pub returns-in_default-digest_after : goal.returns-in_default-digest_after
returns-in_default-digest_after c = λ h rest is e.
    let a = formula_step c.args.text.now c.in-Some.formula.bytes c.in-Some.rest.now h rest c.in-Some.ensures.0 c.in-Some.ensures.1 is e in
    c.in_default-digest_after.ensures h.log.bytes (lemmas_tail h rest) is.log a.1

pub returns-in_default-number_after : goal.returns-in_default-number_after
returns-in_default-number_after c = λ h rest is e.
    let a = formula_step c.args.text.now c.in-Some.formula.bytes c.in-Some.rest.now h rest c.in-Some.ensures.0 c.in-Some.ensures.1 is e in
    let b = log_step c.in-Some.rest.now c.in-Some-digest_after.log.bytes c.in-Some-digest_after.rest.now h rest c.in-Some-digest_after.ensures.0 c.in-Some-digest_after.ensures.1 is a.1 in
    c.in_default-number_after.ensures h.lemmas (bytes_tail h rest) is.lemmas b.1

pub returns-in_default-number_after-2 : goal.returns-in_default-number_after-2
returns-in_default-number_after-2 c = λ h rest is e.
    let a = formula_step c.args.text.now c.in-Some.formula.bytes c.in-Some.rest.now h rest c.in-Some.ensures.0 c.in-Some.ensures.1 is e in
    let b = log_step c.in-Some.rest.now c.in-Some-digest_after.log.bytes c.in-Some-digest_after.rest.now h rest c.in-Some-digest_after.ensures.0 c.in-Some-digest_after.ensures.1 is a.1 in
    let d = lemmas_step c.in-Some-digest_after.rest.now c.in-Some-number_after.lemmas c.in-Some-number_after.rest.now h rest c.in-Some-number_after.ensures.0 c.in-Some-number_after.ensures.1 is b.1 in
    c.in_default-number_after-2.ensures h.bytes rest is.bytes d.1

pub returns : goal.returns
returns c = (
  record { formula = c.in-Some.ensures.1; log = c.in-Some-digest_after.ensures.1; lemmas = c.in-Some-number_after.ensures.1; bytes = c.in-Some-number_after-2.ensures.1 },
  whole_head c.args.text.now c.in-Some.formula.bytes c.in-Some.rest.now c.in-Some-digest_after.log.bytes c.in-Some-digest_after.rest.now c.in-Some-number_after.lemmas c.in-Some-number_after.rest.now
      c.in-Some-number_after-2.bytes c.in-Some-number_after-2.rest.now c.in-Some.ensures.0 c.in-Some-digest_after.ensures.0 c.in-Some-number_after.ensures.0 c.in-Some-number_after-2.ensures.0,
)
