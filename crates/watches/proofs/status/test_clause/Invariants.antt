use Rattle.watches.proofs.TestedLiterals.{Tested}
use Rattle.watches.proofs.status.test_clause.Given as goal

abbrev pub invariant-loop-literal : goal.invariant-loop-literal
invariant-loop-literal l = Tested l.trail.entries l.literals l.literal-index l.free
