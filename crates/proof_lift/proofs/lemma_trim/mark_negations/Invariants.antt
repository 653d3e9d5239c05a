use Rattle.std.proofs.Common.{◌≡◌, ◌+◌, take}
use Rattle.dimacs.specs.logic.Propagation.{negations}
use Rattle.proof_lift.specs.inner.Tables.{marked, AllBelow}
use Rattle.proof_lift.proofs.lemma_trim.mark_negations.Given as goal

abbrev pub invariant-loop-l : goal.invariant-loop-l
invariant-loop-l l = record {
  used : marked l.marks l.stamp ≡ negations (take l.l-index l.clause);
  below : AllBelow (l.stamp + 1) l.marks;
}
