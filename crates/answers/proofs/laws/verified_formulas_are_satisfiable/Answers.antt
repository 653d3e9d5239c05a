use Rattle.answers.proofs.ReportLemmas.{verified_is_satisfied}
use Rattle.answers.proofs.laws.verified_formulas_are_satisfiable.Goals as goal

pub returns : goal.returns
returns c = verified_is_satisfied
