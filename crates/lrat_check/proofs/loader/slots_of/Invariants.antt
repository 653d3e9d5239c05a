use Rattle.std.proofs.Common.{◌<◌, ◌+◌, length}
use Rattle.lrat_check.specs.inner.Store.{IsFilledTo}
use Rattle.lrat_check.proofs.loader.slots_of.Given as goal

abbrev pub invariant-loop-i : goal.invariant-loop-i
invariant-loop-i l = record {
  next : l.i + 1 < length l.near + 1024;
  filled : IsFilledTo l.literals l.places l.i l.near;
}
