use Rattle.elimination.specs.inner.Reducing.{IsReductionOf}
use Rattle.elimination.proofs.kept.eliminate.Given as goal

abbrev pub invariant-loop : goal.invariant-loop
invariant-loop l = IsReductionOf l.formula l.reducer
