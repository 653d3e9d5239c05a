use Rattle.std.proofs.Common.{◌≡◌, ◌<◌, ◌^◌, max, drop}
use Rattle.dimacs.specs.logic.Cnf.{greatest_in}
use Rattle.dimacs.proofs.greatest.greatest_in.Given as goal

abbrev pub invariant-loop-i : goal.invariant-loop-i
invariant-loop-i l = record {
  value : max l.greatest (greatest_in (drop l.i l.formula.clauses)) ≡ greatest_in l.formula.clauses;
  below : l.greatest < 2 ^ 31;
}
