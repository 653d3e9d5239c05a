use Rattle.std.proofs.Common.{◌≡◌, ◌<◌, ◌^◌, max, drop}
use Rattle.dimacs.specs.logic.Cnf.{greatest_of}
use Rattle.dimacs.proofs.greatest.greatest_of.Given as goal

abbrev pub invariant-loop-l : goal.invariant-loop-l
invariant-loop-l l = record {
  value : max l.greatest (greatest_of (drop l.l-index l.clause)) ≡ greatest_of l.clause;
  below : l.greatest < 2 ^ 31;
}
