use Rattle.lrat_check.proofs.Agreement.{true_of}
use Rattle.lrat_check.proofs.laws.right_verdicts_are_true.Goals as goal

pub returns : goal.returns
returns c = true_of
