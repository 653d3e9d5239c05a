use Rattle.std.proofs.Common.{◌≡◌, ℕ, ◌<◌, false}
use Rattle.std.specs.Prelude.{slice_index_or}
use Rattle.dimacs.specs.logic.Literal.{Literal, literal_true}
use Rattle.dimacs.specs.logic.Cnf.{assignment_of}
use Rattle.dimacs.proofs.assignment.clause_holds.Given as goal

-- no literal so far is true
abbrev pub invariant-loop-literal : goal.invariant-loop-literal
invariant-loop-literal l = (k : ℕ) (d : Literal) → k < l.literal-index → literal_true (assignment_of l.assignment) (slice_index_or l.clause k d) ≡ false
