use Rattle.std.proofs.Common.{◌≡◌, false, take}
use Rattle.std.specs.List.{list_any}
use Rattle.lrat_check.specs.inner.Marks.{assumed_by}
use Rattle.lrat_check.specs.StepFaults.{not_false, status_of_free}
use Rattle.lrat_check.specs.Statuses.{status_in}
use Rattle.proof_lift.proofs.status.classify.Given as goal

abbrev pub invariant-loop-l : goal.invariant-loop-l
invariant-loop-l l = record {
  none_true : list_any (assumed_by l.marks l.stamp l.stamp) (take l.l-index l.clause) ≡ false;
  seen_is : status_in l.seen ≡ status_of_free (not_false (assumed_by l.marks l.stamp l.stamp) (take l.l-index l.clause));
}
