use Rattle.std.proofs.Common.{◌≡◌, length}
use Rattle.self_test.proofs.examples.printed.Given as goal

abbrev pub invariant-loop-word : goal.invariant-loop-word
invariant-loop-word l = length l.values.items ≡ l.fn.vars

abbrev pub decreases-loop-word : goal.decreases-loop-word
decreases-loop-word l = length l.rest
