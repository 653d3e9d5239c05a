use Rattle.std.proofs.Common.{◌≡◌}
use Rattle.crate_tests.proofs.decide_heap_order.play.Given as goal

abbrev pub invariant-loop-turn : goal.invariant-loop-turn
invariant-loop-turn g l = l.heap.vars ≡ 20
