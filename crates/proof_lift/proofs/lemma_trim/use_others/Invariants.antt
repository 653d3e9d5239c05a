use Rattle.std.proofs.Common.{◌≡◌, ◌+◌, take}
use Rattle.proof_lift.specs.TrimmedLemma.{used_before}
use Rattle.proof_lift.specs.inner.Tables.{marked, AllBelow}
use Rattle.proof_lift.proofs.lemma_trim.use_others.Given as goal

-- of the literals so far
abbrev pub invariant-loop-l : goal.invariant-loop-l
invariant-loop-l l = record {
  used : marked l.marks l.stamp ≡ used_before (record { number = 0; clause = take l.l-index l.clause; unit = l.unit }) (marked l.fn.marks l.stamp);
  below : AllBelow (l.stamp + 1) l.marks;
}
