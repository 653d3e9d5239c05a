use Rattle.std.proofs.Common.{take, All}
use Rattle.dimacs.specs.logic.Literal.{var_of}
use Rattle.elimination.specs.Kept.{IsEliminated}
use Rattle.cell_worker.proofs.worker.has_eliminated.Given as goal

abbrev pub invariant-loop-literal : goal.invariant-loop-literal
invariant-loop-literal l = All (λ k. ¬ (IsEliminated l.eliminated (var_of k))) (take l.literal-index l.clause)
