use Rattle.shared_logs.proofs.TruthLemmas.{imports_follow, lemmas_follow}
use Rattle.shared_logs.proofs.laws.shared_lemmas_follow.Goals as goal

pub returns-clause-lemmas : goal.returns-clause-lemmas
returns-clause-lemmas c = lemmas_follow

pub returns-clause-imports : goal.returns-clause-imports
returns-clause-imports c = imports_follow
