use Rattle.std.proofs.Common.{take}
use Rattle.cube_solve.proofs.JoiningLemmas.{IsMet}
use Rattle.cube_solve.proofs.joining.joining_level.Given as goal

abbrev pub invariant-loop-literal : goal.invariant-loop-literal
invariant-loop-literal l = IsMet l.trail.entries (take l.literal-index l.clause) l.first l.second l.satisfied
