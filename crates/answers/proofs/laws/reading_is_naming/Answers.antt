use Rattle.answers.proofs.LawLemmas.{found_names, names_found}
use Rattle.answers.proofs.laws.reading_is_naming.Goals as goal

pub returns-clause-found : goal.returns-clause-found
returns-clause-found c = found_names

pub returns-clause-only : goal.returns-clause-only
returns-clause-only c = names_found
