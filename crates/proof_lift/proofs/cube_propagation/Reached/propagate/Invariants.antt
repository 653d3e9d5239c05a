use Rattle.std.proofs.Common.{◌≡◌, vec_len}
use Rattle.dimacs.specs.logic.Propagation.{Assumed}
use Rattle.proof_lift.specs.inner.Images.{images_of}
use Rattle.proof_lift.specs.inner.Reached.{IsReached, unmarked}
use Rattle.proof_lift.proofs.cube_propagation.Reached.propagate.Given as goal

abbrev pub invariant-loop : goal.invariant-loop
invariant-loop l = record {
  reached : (A : Assumed) → IsReached (images_of l.images) A l.initial.self → IsReached (images_of l.images) A l.self;
  places : vec_len l.self.truth ≡ vec_len l.initial.self.truth;
}

abbrev pub decreases-loop : goal.decreases-loop
decreases-loop l = unmarked l.self.truth.items
