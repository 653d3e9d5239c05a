use Rattle.icnf.proofs.SpellingLemmas.{parse_spells_within, spells_parse_within}
use Rattle.icnf.proofs.laws.reading_is_spelling.Goals as goal

pub returns : goal.returns
returns c = λ L text f cubes no_more. (parse_spells_within L text f cubes no_more, spells_parse_within L text f cubes)
