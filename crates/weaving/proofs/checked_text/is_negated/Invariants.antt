use Rattle.std.proofs.Common.{take}
use Rattle.lidrup.specs.Lidrup.{Negates}
use Rattle.weaving.proofs.checked_text.is_negated.Given as goal

abbrev pub invariant-loop-l : goal.invariant-loop-l
invariant-loop-l l = Negates l.cube (take l.l-index l.clause)
