use Rattle.std.proofs.Common.{◌≡◌, ◌+◌, take, false}
use Rattle.dimacs.specs.logic.Propagation.{negations}
use Rattle.lrat_check.specs.StepFaults.{is_tautology}
use Rattle.proof_lift.specs.inner.Tables.{marked, AllBelow}
use Rattle.proof_lift.proofs.marks.assume_negations.Given as goal

abbrev pub invariant-loop-l : goal.invariant-loop-l
invariant-loop-l l = record {
  assumed : marked l.marks l.stamp ≡ negations (take l.l-index l.lits);
  apart : is_tautology (take l.l-index l.lits) ≡ false;
  below : AllBelow (l.stamp + 1) l.marks;
}
