use Rattle.lrat_binary.proofs.ReadLemmas.{found_spells_within}
use Rattle.lrat_binary.proofs.SpelledLemmas.{spelled_found_within}
use Rattle.lrat_binary.proofs.laws.reading_within_is_spelling.Goals as goal

pub returns-clause-found : goal.returns-clause-found
returns-clause-found c = found_spells_within

pub returns-clause-only : goal.returns-clause-only
returns-clause-only c = λ most bytes steps few h. spelled_found_within most few steps bytes h
