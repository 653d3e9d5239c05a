use Rattle.std.proofs.Common.{◌≡◌, ◌+◌, length, drop}
use Rattle.proof_lift.specs.HintWalk.{lift_walk}
use Rattle.proof_lift.specs.inner.Images.{images_of}
use Rattle.proof_lift.specs.inner.Tables.{marked, AllBelow}
use Rattle.proof_lift.specs.inner.Walks.{from_there, passed_by}
use Rattle.proof_lift.proofs.walk.walk.Given as goal

-- from here the walk ends where the whole one does
abbrev pub invariant-loop-hint : goal.invariant-loop-hint
invariant-loop-hint l = record {
  walk_on :
      from_there (passed_by (images_of l.images) l.chain.items) (lift_walk (images_of l.images) (drop l.hint-index l.hints) (marked l.marks l.stamp))
      ≡ from_there (passed_by (images_of l.images) l.initial.chain.items) (lift_walk (images_of l.images) l.hints (marked l.initial.marks l.stamp));
  below : AllBelow (l.stamp + 1) l.marks;
  places : length l.marks ≡ length l.initial.marks;
}
