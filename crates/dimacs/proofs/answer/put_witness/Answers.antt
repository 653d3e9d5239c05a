use Rattle.std.proofs.Common.{◌+◌, ◌++◌, [], List, ℕ, false, drop, ap, sym, ◌∙◌, arith, append_assoc, codes}
use Rattle.std.proofs.lemmas.Result.{on_ok_weaker}
use Rattle.dimacs.specs.text.Answer.{filled}
use Rattle.dimacs.proofs.AnswerLemmas.{items_from, items_step, items_end, begins_on}
use Rattle.dimacs.proofs.answer.put_witness.Goals as goal

pub returns-clause-ok : goal.returns-clause-ok
returns-clause-ok c =
    let all = ap (λ (items : List (List ℕ)). c.loop-i.out.items ++ filled c.loop-i.used items) (items_end c.args.values.now c.loop-i.i (omega arith)) in
    on_ok_weaker c.put-2.result (λ e. e ∙ c.in_ok-put_item.ensures.ok [] ∙ sym all ∙ c.loop-i.invariant.2) c.put-2.ensures.ok

pub loop-i-init : goal.loop-i-init
loop-i-init c =
    let rest : List ℕ = filled 1 (items_from 1 c.args.values.now) in
    (omega arith, c.put.ensures.begins, ap (λ xs. xs ++ rest) c.in_ok-put.ensures.ok ∙ append_assoc c.args.out.now.items (codes "v") rest)

pub loop-i-preserved : goal.loop-i-preserved
loop-i-preserved c =
    let more : List (List ℕ) = items_from (c.loop-i.i + 1 + 1) (drop (c.loop-i.i + 1) c.args.values.now) in
    let step = ap (λ (items : List (List ℕ)). c.loop-i.out.items ++ filled c.loop-i.used items) (items_step c.args.values.now c.loop-i.i false c.loop-i-test.true) in
    (c.in_ok-used.ensures.used, begins_on _ _ _ c.loop-i.invariant.1 c.put_value.ensures.begins, c.in_ok-used.ensures.ok more ∙ sym step ∙ c.loop-i.invariant.2)
