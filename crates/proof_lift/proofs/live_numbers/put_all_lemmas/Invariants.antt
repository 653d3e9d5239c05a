use Rattle.std.proofs.Common.{◌<◌, ◌≤◌, ◌%◌, length}
use Rattle.proof_lift.specs.inner.Images.{images_of}
use Rattle.proof_lift.specs.inner.Propagation.{Lists}
use Rattle.proof_lift.proofs.live_numbers.put_all_lemmas.Given as goal

abbrev pub invariant-loop-i : goal.invariant-loop-i
invariant-loop-i l = Lists (images_of l.images) (λ n. (length l.images.live.items ≤ n) × (n % 8192 < l.i)) l.initial.numbers.items l.numbers.items
