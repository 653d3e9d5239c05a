use Rattle.log_join.proofs.ClosedLemmas.{gathered_some, gathered_only}
use Rattle.log_join.proofs.OneTree.{gathered_once}
use Rattle.log_join.proofs.laws.closed_leaves_are_joined.Goals as goal

pub returns-clause-some : goal.returns-clause-some
returns-clause-some c = gathered_some

pub returns-clause-only : goal.returns-clause-only
returns-clause-only c = gathered_only

pub returns-clause-one : goal.returns-clause-one
returns-clause-one c = gathered_once
