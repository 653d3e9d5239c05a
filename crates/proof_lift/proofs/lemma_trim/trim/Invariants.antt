use Rattle.std.proofs.Common.{◌≡◌, ◌+◌, ◌≤◌, drop, length, reverse}
use Rattle.proof_lift.specs.TrimmedLemma.{used, kept}
use Rattle.proof_lift.specs.inner.Images.{images_of}
use Rattle.proof_lift.specs.inner.Tables.{marked, AllBelow}
use Rattle.proof_lift.specs.inner.Walks.{passed_by}
use Rattle.proof_lift.proofs.lemma_trim.trim.Given as goal

-- of the hints from here on
abbrev pub invariant-loop-i : goal.invariant-loop-i
invariant-loop-i l = record {
  inside : l.i ≤ length l.chain;
  numbers : reverse l.numbers.items ≡ kept (passed_by (images_of l.images) (drop l.i l.chain)) l.conflict.clause.now l.conflict.number;
  used : marked l.marks l.stamp ≡ used (passed_by (images_of l.images) (drop l.i l.chain)) l.conflict.clause.now;
  below : AllBelow (l.stamp + 1) l.marks;
}

abbrev pub decreases-loop-i : goal.decreases-loop-i
decreases-loop-i l = l.i
