-- The state of the iCNF parser after the header.
use Rattle.dimacs.specs.layout.BuilderState.{BuilderState}
use Rattle.dimacs.specs.logic.Limits.{Limits}
use Rattle.icnf.specs.Walk.{WalkState}

-- the limits, the clauses read so far, and the cubes read so far
pub record ReadState : Type 0 where
  pub limits : Limits
  pub clauses : BuilderState
  pub walk : WalkState
