use Rattle.std.proofs.Common.{◌≡◌, true, take, All}
use Rattle.dimacs.specs.logic.Cnf.{assignment_of}
use Rattle.dimacs.specs.logic.Literal.{literal_true}
use Rattle.cell_worker.proofs.restoring.are_true.Given as goal

abbrev pub invariant-loop-literal : goal.invariant-loop-literal
invariant-loop-literal l = All (λ k. literal_true (assignment_of l.values) k ≡ true) (take l.literal-index l.query)
