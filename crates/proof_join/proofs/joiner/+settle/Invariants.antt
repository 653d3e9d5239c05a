use Rattle.proof_join.proofs.joiner.+settle.Given as goal

abbrev pub decreases-settle : goal.decreases-settle
decreases-settle l = l.depth
