use Rattle.worker_core.proofs.AddedClausesLemmas.{extended_right}
use Rattle.worker_core.proofs.laws.extended_workers_hold_what_is_right.Goals as goal

pub returns-clause-right : goal.returns-clause-right
returns-clause-right c = extended_right c.what_is_kept_is_right.ensures.right
