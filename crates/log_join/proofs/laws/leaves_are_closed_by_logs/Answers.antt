use Rattle.log_join.proofs.ClosedLemmas.{closed_only, closed_all}
use Rattle.log_join.proofs.laws.leaves_are_closed_by_logs.Goals as goal

pub returns-clause-only : goal.returns-clause-only
returns-clause-only c = closed_only

pub returns-clause-all : goal.returns-clause-all
returns-clause-all c = closed_all
