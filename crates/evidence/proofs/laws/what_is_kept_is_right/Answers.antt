use Rattle.evidence.proofs.KeptVerdictLemmas.{stays_right, stays_once}
use Rattle.evidence.proofs.laws.what_is_kept_is_right.Goals as goal

pub returns-clause-right : goal.returns-clause-right
returns-clause-right c = stays_right

pub returns-clause-one : goal.returns-clause-one
returns-clause-one c = stays_once
