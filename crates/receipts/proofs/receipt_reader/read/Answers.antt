use Rattle.std.proofs.Common.{◌∙◌, ℕ, List, sym, ap}
use Rattle.std.proofs.lemmas.Result.{err_from_is_err_and}
use Rattle.receipts.specs.Receipts.{closing_text}
use Rattle.receipts.specs.Contents.{contents_of}
use Rattle.receipts.specs.inner.Heads.{parted}
use Rattle.receipts.proofs.HeadLemmas.{head_of, is_head, one_head, one_told, text_is}
use Rattle.receipts.proofs.receipt_reader.read.Goals as goal

pub returns-in-Err-clause-only : goal.returns-in-Err-clause-only
returns-in-Err-clause-only c = λ r h. absurd (c.in-Err.ensures (head_of r) (closing_text r.closing) (is_head r h.0) (h.1 ∙ text_is r))

pub returns-in_err-closing-clause-only : goal.returns-in_err-closing-clause-only
returns-in_err-closing-clause-only c = λ r h.
    let one = one_head c.args.text.now c.in-Ok.found.0 (head_of r) c.in-Ok.found.1.now (closing_text r.closing) c.in-Ok.ensures.0 (is_head r h.0) c.in-Ok.ensures.1 (h.1 ∙ text_is r) in
    let p = err_from_is_err_and c.from_residual.result c.from_residual.ensures.1 in
    rw (p.1, p.2) (c.in_err-closing.ensures.only r.closing h.0.closing one.same)

pub returns-clause-only : goal.returns-clause-only
returns-clause-only c = λ r h.
    let one = one_head c.args.text.now c.in-Ok.found.0 (head_of r) c.in-Ok.found.1.now (closing_text r.closing) c.in-Ok.ensures.0 (is_head r h.0) c.in-Ok.ensures.1 (h.1 ∙ text_is r) in
    one_told (contents_of (record { head = c.in-Ok.found.0; closing = c.in_ok-closing.closing })) r one.formula one.log one.lemmas one.bytes (c.in_ok-closing.ensures.only r.closing h.0.closing one.same)

pub returns-clause-found : goal.returns-clause-found
returns-clause-found c = (
  record { formula = c.in-Ok.ensures.0.formula; log = c.in-Ok.ensures.0.log; lemmas = c.in-Ok.ensures.0.lemmas; bytes = c.in-Ok.ensures.0.bytes; closing = c.in_ok-closing.ensures.found.1 },
  c.in-Ok.ensures.1 ∙ ap (λ (x : List ℕ). parted c.in-Ok.found.0 x) c.in_ok-closing.ensures.found.0 ∙ sym (text_is (contents_of (record { head = c.in-Ok.found.0; closing = c.in_ok-closing.closing }))),
)
