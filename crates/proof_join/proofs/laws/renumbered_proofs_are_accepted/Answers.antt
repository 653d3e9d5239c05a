use Rattle.proof_join.proofs.KeptLemmas.{renumbered_accepted, rup_accepted}
use Rattle.proof_join.proofs.laws.renumbered_proofs_are_accepted.Goals as goal

pub returns-clause-accepted : goal.returns-clause-accepted
returns-clause-accepted c = renumbered_accepted

pub returns-clause-before : goal.returns-clause-before
returns-clause-before c = rup_accepted
