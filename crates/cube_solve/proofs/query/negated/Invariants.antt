use Rattle.std.proofs.Common.{◌≡◌, map, take}
use Rattle.dimacs.specs.logic.Literal.{negation}
use Rattle.cube_solve.proofs.query.negated.Given as goal

abbrev pub invariant-loop-literal : goal.invariant-loop-literal
invariant-loop-literal l = l.others.items ≡ map negation (take l.literal-index l.literals)
