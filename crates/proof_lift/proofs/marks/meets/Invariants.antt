use Rattle.std.proofs.Common.{◌≡◌, drop}
use Rattle.dimacs.specs.logic.Literal.{Clause}
use Rattle.dimacs.specs.logic.Propagation.{negations}
use Rattle.proof_lift.specs.LiftedText.{is_met}
use Rattle.proof_lift.specs.inner.Tables.{marked}
use Rattle.proof_lift.proofs.marks.meets.Given as goal

-- what is left decides
abbrev pub invariant-loop-x : goal.invariant-loop-x
invariant-loop-x l = (C : Clause) → marked l.marks l.stamp ≡ negations C → is_met l.cube C ≡ is_met (drop l.x-index l.cube) C
