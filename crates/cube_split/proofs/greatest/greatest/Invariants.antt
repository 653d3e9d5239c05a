use Rattle.cube_split.proofs.GreatestLemmas.{IsBestOf}
use Rattle.cube_split.proofs.greatest.greatest.Given as goal

-- the best so far
abbrev pub invariant-loop-var : goal.invariant-loop-var
invariant-loop-var l = IsBestOf l.marks l.counts l.variables l.var-index l.best
