use Rattle.honest_cluster.proofs.ClosedRuns.{whole_is, again_is}
use Rattle.honest_cluster.proofs.ExampleLemmas.{no_log, wrong_length, next_job}
use Rattle.honest_cluster.proofs.examples.worked_closed_runs.Goals as goal

pub returns : goal.returns
returns c = record { decided = whole_is; anew = again_is; no_log = no_log; wrong_length = (_, wrong_length, next_job) }
