use Rattle.std.proofs.Common.{◌≡◌, ◌/◌, ◌++◌, map, take, drop}
use Rattle.decide_heap.proofs.updates.divide_each.Given as goal

abbrev pub invariant-loop-score : goal.invariant-loop-score
invariant-loop-score l = l.scores ≡ map (λ n. n / l.by) (take l.score-index l.initial.scores) ++ drop l.score-index l.initial.scores
