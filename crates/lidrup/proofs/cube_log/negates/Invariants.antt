use Rattle.std.proofs.Common.{take}
use Rattle.std.specs.Prelude.{Contains}
use Rattle.dimacs.specs.logic.Literal.{Literal, negation}
use Rattle.lidrup.proofs.cube_log.negates.Given as goal

abbrev pub invariant-loop-l : goal.invariant-loop-l
invariant-loop-l l = (k : Literal) → Contains (take l.l-index l.clause) k → Contains l.cube (negation k)
