use Rattle.drat_forms.proofs.WholeFoundLemmas.{found_whole}
use Rattle.drat_forms.proofs.WholeSpelledLemmas.{spelled_whole}
use Rattle.drat_forms.proofs.laws.reading_is_spelling.Goals as goal

pub returns-clause-found : goal.returns-clause-found
returns-clause-found c = found_whole

pub returns-clause-only : goal.returns-clause-only
returns-clause-only c = spelled_whole
