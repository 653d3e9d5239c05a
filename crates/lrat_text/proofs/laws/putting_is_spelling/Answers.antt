use Rattle.lrat_text.specs.WrittenLine.{line_text}
use Rattle.lrat_text.proofs.LineLemmas.{written_spells, written_one_line}
use Rattle.lrat_text.proofs.SpellingLemmas.{spelled_found}
use Rattle.lrat_text.proofs.laws.putting_is_spelling.Goals as goal

pub returns-clause-spells : goal.returns-clause-spells
returns-clause-spells c = written_spells

pub returns-clause-one_line : goal.returns-clause-one_line
returns-clause-one_line c = written_one_line

pub returns-clause-read_back : goal.returns-clause-read_back
returns-clause-read_back c = λ top step n h. spelled_found (line_text top step) step (written_spells top step n h)
