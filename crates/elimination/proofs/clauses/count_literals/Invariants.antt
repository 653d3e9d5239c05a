use Rattle.std.proofs.Common.{◌≡◌, take}
use Rattle.dimacs.specs.logic.Cnf.{literal_count}
use Rattle.elimination.proofs.clauses.count_literals.Given as goal

abbrev pub invariant-loop-i : goal.invariant-loop-i
invariant-loop-i l = l.count ≡ literal_count (take l.i l.all.clauses)
