use Rattle.std.proofs.Common.{◌≡◌, map, take}
use Rattle.dimacs.specs.logic.Literal.{negation}
use Rattle.sessions.proofs.known.negate.Given as goal

abbrev pub invariant-loop-l : goal.invariant-loop-l
invariant-loop-l l = l.negated.items ≡ map negation (take l.l-index l.lits)
