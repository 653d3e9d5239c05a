use Rattle.proof_lift.proofs.CompleteLemmas.{refutations_lift}
use Rattle.proof_lift.proofs.laws.refutations_are_lifted.Goals as goal

pub returns : goal.returns
returns c = refutations_lift
