use Rattle.std.proofs.Common.{take}
use Rattle.dimacs.specs.logic.Propagation.{Assumed}
use Rattle.proof_lift.specs.inner.Images.{images_of}
use Rattle.proof_lift.specs.inner.Reached.{ComesTo, Shifts, IsReached, look_of}
use Rattle.proof_lift.proofs.cube_propagation.Reached.visit_all.Given as goal

abbrev pub invariant-loop-number : goal.invariant-loop-number
invariant-loop-number l = record {
  so_far : (A : Assumed) → IsReached (images_of l.images) A l.initial.self → ComesTo (images_of l.images) A (take l.number-index l.numbers) l.initial.self l.self (look_of l.moved);
  shifts : Shifts l.initial.self l.self (look_of l.moved);
}
