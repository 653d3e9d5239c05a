use Rattle.std.proofs.Common.{◌++◌, ◌∙◌, List, ℕ, sym, ap}
use Rattle.hex.specs.Hex.{encode_lower}
use Rattle.receipts.proofs.HeadLemmas.{behind_front, match_weaker}
use Rattle.receipts.proofs.header_fields.digest_after.Goals as goal

pub returns-in-Some : goal.returns-in-Some
returns-in-Some c = match_weaker c.digest_in.result _ _
    (λ none d rest h e. none d rest h (behind_front c.args.front.now c.in-Some.rest.now (encode_lower d ++ rest) (sym c.in-Some.ensures ∙ e)))
    (λ p h. (c.in-Some.ensures ∙ ap (λ (x : List ℕ). c.args.front.now ++ x) h.0, h.1))
    c.digest_in.ensures
