use Rattle.std.proofs.Common.{◌++◌, ◌∷◌, ◌∙◌, List, ℕ, decimal, sym, ap}
use Rattle.receipts.proofs.HeadLemmas.{behind_front, match_weaker}
use Rattle.receipts.proofs.header_fields.number_after.Goals as goal

pub returns-in-Some : goal.returns-in-Some
returns-in-Some c = match_weaker c.number_in.result _ _
    (λ none n rest low e. none n rest low (behind_front c.args.front.now c.in-Some.rest.now (decimal n ++ 10 ∷ rest) (sym c.in-Some.ensures ∙ e)))
    (λ p h. (c.in-Some.ensures ∙ ap (λ (x : List ℕ). c.args.front.now ++ x) h.0, h.1))
    c.number_in.ensures
