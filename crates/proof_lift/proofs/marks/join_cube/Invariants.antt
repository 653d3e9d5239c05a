use Rattle.std.proofs.Common.{◌≡◌, ◌+◌, drop}
use Rattle.dimacs.specs.logic.Propagation.{negations}
use Rattle.proof_lift.specs.TrimmedLemma.{union}
use Rattle.proof_lift.specs.inner.Tables.{marked, AllBelow}
use Rattle.proof_lift.proofs.marks.join_cube.Given as goal

abbrev pub invariant-loop-x : goal.invariant-loop-x
invariant-loop-x l = record {
  clause : union (drop l.x-index l.cube) l.clause.items ≡ union l.cube l.fn.clause.items;
  assumed : marked l.marks l.stamp ≡ negations l.clause.items;
  below : AllBelow (l.stamp + 1) l.marks;
}
