use Rattle.std.proofs.Common.{◌≡◌, take}
use Rattle.std.specs.List.{filter}
use Rattle.dimacs.specs.logic.Literal.{negation}
use Rattle.proof_lift.specs.inner.Tables.{marked}
use Rattle.proof_lift.proofs.lemma_trim.kept_literals.Given as goal

abbrev pub invariant-loop-l : goal.invariant-loop-l
invariant-loop-l l = l.literals.items ≡ filter (λ k. marked l.marks l.stamp (negation k)) (take l.l-index l.clause)
