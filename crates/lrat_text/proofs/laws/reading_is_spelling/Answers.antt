use Rattle.lrat_text.proofs.SpellingLemmas.{found_spells, spelled_found}
use Rattle.lrat_text.proofs.laws.reading_is_spelling.Goals as goal

pub returns-clause-found : goal.returns-clause-found
returns-clause-found c = found_spells

pub returns-clause-only : goal.returns-clause-only
returns-clause-only c = spelled_found
