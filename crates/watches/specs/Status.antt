-- The status of one clause under a trail.
use Rattle.std.specs.Prelude.{List}
use Rattle.dimacs.specs.logic.Literal.{Clause}
use Rattle.dimacs.specs.logic.Propagation.{IsFalse, IsUnit}
use Rattle.watches.specs.declared.trail.Assigned.{Assigned}
use Rattle.watches.specs.declared.status.Status.{Status}
use Rattle.watches.specs.declared.status.Status.TheVariants as status
use Rattle.watches.specs.Trails.{holds}
use Rattle.watches.specs.Law.{NeitherFalseNorUnit}

-- the status of a clause under these entries is right
abbrev pub HasStatus : List Assigned → Clause → Status → Type 0
HasStatus entries C status.False = IsFalse (holds entries) C
HasStatus entries C (status.Unit l) = IsUnit (holds entries) C l
HasStatus entries C status.Other = NeitherFalseNorUnit (holds entries) C
