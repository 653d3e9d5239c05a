use Rattle.std.proofs.Common.{take, All}
use Rattle.std.specs.List.{Contains}
use Rattle.dimacs.specs.logic.Literal.{negation}
use Rattle.sharing.proofs.exchange.closes.Given as goal

abbrev pub invariant-loop-literal : goal.invariant-loop-literal
invariant-loop-literal l = All (λ k. Contains l.query (negation k)) (take l.literal-index l.clause)
