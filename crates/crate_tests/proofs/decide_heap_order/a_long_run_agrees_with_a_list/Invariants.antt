use Rattle.std.proofs.Common.{◌≡◌}
use Rattle.crate_tests.proofs.decide_heap_order.a_long_run_agrees_with_a_list.Given as goal

abbrev pub invariant-loop : goal.invariant-loop
invariant-loop g l = l.heap.vars ≡ 20
