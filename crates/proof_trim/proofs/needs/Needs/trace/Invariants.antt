use Rattle.proof_trim.proofs.needs.Needs.trace.Given as goal

abbrev pub decreases-loop-place : goal.decreases-loop-place
decreases-loop-place l = l.lines
