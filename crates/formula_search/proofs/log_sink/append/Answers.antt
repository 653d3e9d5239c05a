use Rattle.std.proofs.Common.{◌++◌, List, ℕ, take, drop, sym, ◌∙◌, ap, append_assoc, arith}
use Rattle.std.proofs.Math.Seq.{take-add}
use Rattle.formula_search.proofs.log_sink.append.Goals as goal

pub pieces-preserved : goal.pieces-preserved
pieces-preserved c =
    let from = c.pieces.from in
    let count = c.min-count.result in
    let more = c.args.more.now in
    let i = c.pieces.invariant in
    record {
      inside = omega arith;
      text = c.in_ok-extend.ensures.ok ∙ ap (λ (t : List ℕ). c.pieces.text ++ t) (c.deref.ensures.value ∙ c.in_ok-piece.ensures) ∙ ap (λ (t : List ℕ). t ++ take count (drop from more)) i.text
          ∙ append_assoc c.args.text.now (take from more) (take count (drop from more)) ∙ ap (λ (t : List ℕ). c.args.text.now ++ t) (sym (take-add from count more));
    }
