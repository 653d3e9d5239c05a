use Rattle.std.proofs.Common.{take}
use Rattle.elimination.specs.inner.Indexed.{lists_in, AreListsWith}
use Rattle.elimination.proofs.clauses.list_clause.Given as goal

abbrev pub invariant-loop-l : goal.invariant-loop-l
invariant-loop-l l = AreListsWith (lists_in l.initial.occurs.items) (lists_in l.occurs.items) (take l.l-index l.clause) l.i
