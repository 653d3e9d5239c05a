use Rattle.std.proofs.Common.{◌/◌, arith}
use Rattle.std.proofs.lemmas.List.Edits.{map_over_more}
use Rattle.std.proofs.lemmas.List.{get_or_default}
use Rattle.decide_heap.proofs.updates.divide_each.Goals as goal

pub loop-score-preserved : goal.loop-score-preserved
loop-score-preserved c =
    map_over_more (λ n. n / c.args.by) c.args.scores.now c.loop-score.scores c.loop-score.score-index _ (omega arith) c.loop-score.invariant (get_or_default c.loop-score.scores c.loop-score.score-index 0 _ (omega arith))
