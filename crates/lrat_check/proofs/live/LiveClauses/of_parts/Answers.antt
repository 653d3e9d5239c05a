use Rattle.std.proofs.Common.{List, subst}
use Rattle.dimacs.specs.logic.Literal.{Literal}
use Rattle.lrat_check.specs.inner.LiteralTable.{FitsTable}
use Rattle.lrat_check.proofs.live.LiveClauses.of_parts.Goals as goal

pub invariant_of-result : goal.invariant_of-result
invariant_of-result c = (
  c.in_ok-of_parts.ensures.fits c.places_for-needed.result (subst (λ (ls : List Literal). FitsTable c.places_for-needed.result ls) c.deref.ensures.value c.places_for-needed.ensures),
  c.new.ensures c.in_ok-of_parts.field-0.live,
)
