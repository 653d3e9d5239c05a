use Rattle.lrat_text.proofs.CountingLemmas.{one_list, one_list_under}
use Rattle.lrat_text.proofs.laws.a_text_spells_one_list.Goals as goal

pub returns-clause-written : goal.returns-clause-written
returns-clause-written c = one_list

pub returns-clause-within : goal.returns-clause-within
returns-clause-within c = λ a b text steps others few_a few_b h k. one_list_under a b few_a few_b text steps others h k
