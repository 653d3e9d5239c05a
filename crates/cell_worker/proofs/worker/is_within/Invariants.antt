use Rattle.std.proofs.Common.{take, All}
use Rattle.dimacs.specs.logic.Literal.{IsWithin}
use Rattle.cell_worker.proofs.worker.is_within.Given as goal

abbrev pub invariant-loop-literal : goal.invariant-loop-literal
invariant-loop-literal l = All (IsWithin l.vars) (take l.literal-index l.clause)
