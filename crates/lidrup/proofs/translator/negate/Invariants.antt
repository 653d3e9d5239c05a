use Rattle.std.proofs.Common.{◌≡◌, take, map}
use Rattle.dimacs.specs.logic.Literal.{negation}
use Rattle.lidrup.proofs.translator.negate.Given as goal

abbrev pub invariant-loop-l : goal.invariant-loop-l
invariant-loop-l l = l.negated.items ≡ map negation (take l.l-index l.lits)
