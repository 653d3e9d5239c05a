use Rattle.std.proofs.Common.{◌+◌, ◌≤◌, length, sym, ◌∙◌, arith}
use Rattle.std.proofs.lemmas.List.{get_or_default}
use Rattle.decide_heap.proofs.OrderLemmas.{no_worse_same, no_worse_at, over_both}
use Rattle.decide_heap.proofs.rows.Rows.better_child.Goals.{else-right-self-via-then-right-self+else-is_better, else-right-self-via-else-right-self}
use Rattle.decide_heap.proofs.rows.Rows.better_child.Goals as goal

pub returns-then-is_better-clause-best : goal.returns-then-is_better-clause-best
returns-then-is_better-clause-best c =
    let scores = c.args.self.now.scores.items in
    let heap = c.args.self.now.heap.items in
    let left = c.args.left in
    let size : c.args.self.now.len ≤ length heap = c.requires.size in
    let low = get_or_default heap left 0 c.index-then-right-self.result.now (omega (arith, c.requires.within)) ∙ sym c.index-then-right-self.ensures in
    let high = get_or_default heap (left + 1) 0 c.index.result.now (omega (arith, c.if-right-self.true)) ∙ sym c.index.ensures in
    over_both scores heap c.args.self.now.len left (left + 1) (no_worse_at scores _ _ _ _ high low c.if-is_better.ensures) (λ _. no_worse_same scores _)

pub returns-else-right-self-clause-best : goal.returns-else-right-self-clause-best
returns-else-right-self-clause-best c =
    let scores = c.args.self.now.scores.items in
    let heap = c.args.self.now.heap.items in
    let left = c.args.left in
    let size : c.args.self.now.len ≤ length heap = c.requires.size in
    over_both scores heap c.args.self.now.len left left (no_worse_same scores _) (λ lt.
    elim c.else-right-self.branch [
      | else-right-self-via-then-right-self+else-is_better w ↦
          let low = get_or_default heap left 0 w.index-then-right-self.result.now (omega (arith, c.requires.within)) ∙ sym w.index-then-right-self.ensures in
          let high = get_or_default heap (left + 1) 0 w.index.result.now (omega (arith, lt)) ∙ sym w.index.ensures in
          no_worse_at scores _ _ _ _ low high w.if-is_better.ensures
      | else-right-self-via-else-right-self w ↦ absurd (omega (arith, w.if-right-self.false))
    ])
