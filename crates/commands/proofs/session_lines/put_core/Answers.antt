use Rattle.std.proofs.Common.{◌+◌, ◌++◌, List, ℕ, [], ◌∷◌, drop, ap, sym, ◌∙◌, arith, append_assoc}
use Rattle.commands.specs.SessionLines.{core_filled, core_items}
use Rattle.commands.proofs.CoreLemmas.{core_step, core_end}
use Rattle.commands.proofs.session_lines.put_core.Goals as goal

pub loop-literal-init : goal.loop-literal-init
loop-literal-init c =
    let rest : List ℕ = core_filled 1 (core_items c.args.core.now) in
    record { used = omega arith; whole = ap (λ (xs : List ℕ). xs ++ rest) c.in_ok-push.ensures.items ∙ append_assoc c.args.out.now.items (102 ∷ []) rest }

pub loop-literal-preserved : goal.loop-literal-preserved
loop-literal-preserved c =
    let more : List (List ℕ) = core_items (drop (c.loop-literal.literal-index + 1) c.args.core.now) in
    let step = core_step c.args.core.now c.loop-literal.literal-index c.literal-item.result c.loop-literal-test.true c.literal-item.is in
    record {
      used = c.in_ok-used.ensures.used;
      whole = c.in_ok-used.ensures.filled more ∙ sym (ap (λ (items : List (List ℕ)). c.loop-literal.out.items ++ core_filled c.loop-literal.used items) step) ∙ c.loop-literal.invariant.whole;
    }

pub returns : goal.returns
returns c =
    let all = core_end c.args.core.now c.loop-literal.literal-index c.loop-literal-test.false in
    c.in_ok-push-2.ensures.items ∙ c.in_ok-put_item.ensures.filled []
    ∙ sym (ap (λ (items : List (List ℕ)). c.loop-literal.out.items ++ core_filled c.loop-literal.used items) all) ∙ c.loop-literal.invariant.whole
