use Rattle.leaves.proofs.JoinLemmas.{leaves_are}
use Rattle.leaves.proofs.laws.joined_leaves.Goals as goal

pub returns : goal.returns
returns c = leaves_are
