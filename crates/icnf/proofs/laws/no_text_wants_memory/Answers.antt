use Rattle.icnf.proofs.ToldLemmas.{parse_told}
use Rattle.icnf.proofs.laws.no_text_wants_memory.Goals as goal

pub returns : goal.returns
returns c = λ L text. parse_told L text
