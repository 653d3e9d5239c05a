use Rattle.std.proofs.Common.{◌≡◌, take}
use Rattle.node_main.proofs.formula_split.has_clauses_of.Given as goal

abbrev pub invariant-loop-i : goal.invariant-loop-i
invariant-loop-i l = take l.i l.other.clauses ≡ take l.i l.formula.clauses
