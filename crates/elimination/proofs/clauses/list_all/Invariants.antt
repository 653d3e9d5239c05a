use Rattle.std.proofs.Common.{take}
use Rattle.elimination.specs.inner.Indexed.{lists_in, IsListOf}
use Rattle.elimination.proofs.clauses.list_all.Given as goal

abbrev pub invariant-loop-i : goal.invariant-loop-i
invariant-loop-i l = IsListOf (record (l.all) { clauses = take l.i l.all.clauses }) (lists_in l.occurs.items)
