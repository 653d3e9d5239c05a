use Rattle.std.proofs.Common.{take, All}
use Rattle.dimacs.specs.logic.Literal.{IsWithin}
use Rattle.worker_core.proofs.delivery.is_over_base.Given as goal

-- the variable of each literal so far is one of the base
abbrev pub invariant-loop-literal : goal.invariant-loop-literal
invariant-loop-literal l = All (IsWithin l.vars) (take l.literal-index l.cube)
