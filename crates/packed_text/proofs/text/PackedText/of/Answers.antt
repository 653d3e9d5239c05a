use Rattle.std.proofs.Common.{◌++◌, ℕ, List, take, ap, ◌∙◌, append_assoc}
use Rattle.std.proofs.lemmas.List.{take-append-drop}
use Rattle.packed_text.proofs.text.PackedText.of.Goals as goal

pub loop-rest-preserved : goal.loop-rest-preserved
loop-rest-preserved c =
    let packed = c.loop-rest.packed in
    let rest = c.loop-rest.rest.now in
    let later = c.split_at.result.1.now in
    let n = c.min.result in
    ap (λ (t : List ℕ). t ++ later) c.in_ok-extend.ensures.ok
    ∙ append_assoc packed c.split_at.result.0.now later
    ∙ ap (λ (t : List ℕ). packed ++ (t ++ later)) c.split_at.ensures.front
    ∙ ap (λ (t : List ℕ). packed ++ (take n rest ++ t)) c.split_at.ensures.back
    ∙ ap (λ (t : List ℕ). packed ++ t) (take-append-drop n rest)
    ∙ c.loop-rest.invariant
