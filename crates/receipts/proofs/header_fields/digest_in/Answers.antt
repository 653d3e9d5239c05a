use Rattle.std.proofs.Common.{◌++◌, ◌∙◌, List, ℕ, drop, sym, ap}
use Rattle.std.proofs.lemmas.List.{take-append-drop}
use Rattle.receipts.proofs.HeadLemmas.{too_short}
use Rattle.receipts.proofs.FieldLemmas.{digest_front}
use Rattle.receipts.proofs.header_fields.digest_in.Goals as goal

pub returns-then-text-lt-DIGITS : goal.returns-then-text-lt-DIGITS
returns-then-text-lt-DIGITS c = λ d rest h e. too_short c.args.text.now d rest h c.if-text-lt-DIGITS.true e

pub returns-in-None : goal.returns-in-None
returns-in-None c = λ d rest h e.
    c.in-None.ensures d h
    (digest_front c.args.text.now c.split_at.result.0.now c.split_at.result.1.now d rest h
    (sym (take-append-drop 64 c.args.text.now) ∙ ap (λ (x : List ℕ). x ++ drop 64 c.args.text.now) (sym c.split_at.ensures.front) ∙ ap (λ (x : List ℕ). c.split_at.result.0.now ++ x) (sym c.split_at.ensures.back))
    c.split_at.ensures.front_len e).0
