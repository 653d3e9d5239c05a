use Rattle.std.proofs.Common.{◌<◌}
use Rattle.proof_lift.specs.inner.Images.{images_of}
use Rattle.proof_lift.specs.inner.Propagation.{Lists}
use Rattle.proof_lift.proofs.live_numbers.put_formula.Given as goal

abbrev pub invariant-loop-number : goal.invariant-loop-number
invariant-loop-number l = Lists (images_of l.images) (λ n. n < l.number) l.initial.numbers.items l.numbers.items
