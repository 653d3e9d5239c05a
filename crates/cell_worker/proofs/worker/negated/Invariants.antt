use Rattle.std.proofs.Common.{◌≡◌, map, take}
use Rattle.dimacs.specs.logic.Literal.{negation}
use Rattle.cell_worker.proofs.worker.negated.Given as goal

abbrev pub invariant-loop-literal : goal.invariant-loop-literal
invariant-loop-literal l = l.lits.items ≡ map negation (take l.literal-index l.core)
