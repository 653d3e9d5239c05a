use Rattle.std.proofs.Common.{arith}
use Rattle.look_ahead.proofs.occurrences.Occurrences.of.Goals as goal

pub invariant_of-result : goal.invariant_of-result
invariant_of-result c = record { below = λ k d h. omega (arith, c.loop-i.invariant k d h) }
