use Rattle.answers.proofs.ToldLemmas.{answer_told}
use Rattle.answers.proofs.laws.no_answer_wants_memory.Goals as goal

pub returns : goal.returns
returns c = answer_told
