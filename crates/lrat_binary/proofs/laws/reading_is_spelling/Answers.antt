use Rattle.lrat_binary.proofs.ReadLemmas.{found_spells}
use Rattle.lrat_binary.proofs.SpelledLemmas.{spelled_found}
use Rattle.lrat_binary.proofs.laws.reading_is_spelling.Goals as goal

pub returns-clause-found : goal.returns-clause-found
returns-clause-found c = found_spells

pub returns-clause-only : goal.returns-clause-only
returns-clause-only c = λ bytes steps h. spelled_found steps bytes h
