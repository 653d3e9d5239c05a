use Rattle.conflict_analysis.specs.inner.Minimiser.{HasRoom}
use Rattle.conflict_analysis.proofs.minimiser.Minimiser.+follows.Given as goal

abbrev pub decreases-follows : goal.decreases-follows
decreases-follows l = l.depth

abbrev pub invariant-loop-literal : goal.invariant-loop-literal
invariant-loop-literal l = HasRoom l.trail.vars l.self
