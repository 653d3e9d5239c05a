use Rattle.std.proofs.Common.{ℕ, ◌<◌}
use Rattle.std.specs.Prelude.{slice_index_or}
use Rattle.dimacs.specs.logic.Literal.{Clause, IsTrueIn}
use Rattle.dimacs.specs.logic.Cnf.{assignment_of}
use Rattle.dimacs.proofs.assignment.satisfies.Given as goal

-- each clause so far is true
abbrev pub invariant-loop-i : goal.invariant-loop-i
invariant-loop-i l = (k : ℕ) (d : Clause) → k < l.i → IsTrueIn (assignment_of l.assignment) (slice_index_or l.formula.clauses k d)
