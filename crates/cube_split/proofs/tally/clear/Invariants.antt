use Rattle.cube_split.proofs.TallyLemmas.{AreCleared}
use Rattle.cube_split.proofs.tally.clear.Given as goal

-- the rows of the variables so far are clear
abbrev pub invariant-loop-var : goal.invariant-loop-var
invariant-loop-var l = AreCleared l.fn.counts l.fn.last l.counts l.last l.variables l.var-index
