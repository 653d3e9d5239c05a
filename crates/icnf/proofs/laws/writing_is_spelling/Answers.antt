use Rattle.icnf.proofs.WritingLemmas.{writing_spells}
use Rattle.icnf.proofs.laws.writing_is_spelling.Goals as goal

pub returns : goal.returns
returns c = writing_spells
