use Rattle.shared_logs.proofs.LeavesLemmas.{leaves_refute}
use Rattle.shared_logs.proofs.laws.shared_leaves_refute.Goals as goal

pub returns : goal.returns
returns c = leaves_refute
