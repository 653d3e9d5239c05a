use Rattle.lrat_text.proofs.SpellingLemmas.{found_spells_within, spelled_found_within}
use Rattle.lrat_text.proofs.laws.reading_within_is_spelling.Goals as goal

pub returns-clause-found : goal.returns-clause-found
returns-clause-found c = found_spells_within

pub returns-clause-only : goal.returns-clause-only
returns-clause-only c = λ most line step few s. spelled_found_within most line step few s
